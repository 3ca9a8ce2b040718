use Rattle.std.proofs.Common.{rules, ◌≤◌, ◌∙◌, length, sym, arith}
use Rattle.jx_codestream.specs.Shapes.{no_size}
use Rattle.jx_reduce.specs.Unreducible.{passes_byte}
use Rattle.jx_reduce.proofs.ListLemmas.{no_place, place_by}
use Rattle.jx_reduce.proofs.choices.first_passing.Goals as goal

pub returns-then-passes_byte : goal.returns-then-passes_byte
returns-then-passes_byte c =
    place_by (passes_byte c.args.d) c.args.sizes.now c.loop-comp.comp _ no_size c.loop-comp-test.true (sym c.if-passes_byte.true ∙ c.passes_byte.ensures) c.loop-comp.invariant

pub returns : goal.returns
returns c =
    let all : length c.args.sizes.now ≤ c.loop-comp.comp = search rules in
    no_place (passes_byte c.args.d) c.args.sizes.now no_size (λ k inside. c.loop-comp.invariant k (omega (arith, inside, all)))
