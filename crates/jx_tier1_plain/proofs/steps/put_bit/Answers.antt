use Rattle.std.proofs.Common.{◌≡◌, ◌+◌, arith, rules, sym, subst}
use Rattle.std.proofs.lemmas.Grind.{common_steps}
use Rattle.jx_tier1_specs.specs.Cells.{Cells, IsKept}
use Rattle.jx_tier1_specs.specs.Pass.{with_bit, changed}
use Rattle.jx_tier1_specs.proofs.Places.{bit_kept, bit_fits}
use Rattle.jx_tier1_plain.proofs.steps.put_bit.Goals as goal

pub overflow_add-bits : goal.overflow_add-bits
overflow_add-bits c =
    let f = bit_fits c.args.plane c.args.grid.now c.args.x c.args.y c.requires.scan c.requires.within in
    rw (c.at-coef.ensures, c.weight.ensures) (search rules)

pub returns-clause-kept : goal.returns-clause-kept
returns-clause-kept c =
    let e : c.set.new.self ≡ changed c.args.grid.now c.args.x c.args.y (with_bit c.args.plane c.args.bit) = grind (arith, common_steps) in
    let P : Cells → Type 0 = λ g. IsKept c.args.plane.planes (c.args.plane.number + 1) c.args.grid.now g in
    subst P (sym e) (bit_kept c.args.plane c.args.grid.now c.args.x c.args.y c.args.bit c.requires.scan c.requires.within c.requires.undecided)
