use Rattle.std.proofs.Common.{◌≡◌, ◌+◌, arith, sym, subst}
use Rattle.std.proofs.lemmas.Grind.{common_steps}
use Rattle.jx_tier1_specs.specs.Cells.{Cells, IsKept}
use Rattle.jx_tier1_specs.specs.Pass.{with_sign, changed}
use Rattle.jx_tier1_specs.proofs.Places.{sign_kept}
use Rattle.jx_tier1_plain.proofs.steps.put_sign.Goals as goal

pub returns-clause-kept : goal.returns-clause-kept
returns-clause-kept c =
    let e : c.set.new.self ≡ changed c.args.grid.now c.args.x c.args.y (with_sign c.args.plane c.args.negative) = grind (arith, common_steps) in
    let P : Cells → Type 0 = λ g. IsKept c.args.plane.planes (c.args.plane.number + 1) c.args.grid.now g in
    subst P (sym e) (sign_kept c.args.plane c.args.grid.now c.args.x c.args.y c.args.negative c.requires.scan c.requires.within c.requires.insignificant)
