use Rattle.std.proofs.Common.{◌∙◌, ◌<◌, arith, sym, ℕ}
use Rattle.jx_codestream.specs.Params.{has_too_few, quant_of, shape_of}
use Rattle.jx_codestream.proofs.ScanLemmas.{any_here, any_later}
use Rattle.jx_codestream.proofs.checks.has_too_few.Goals as goal

pub returns-then-comp_has_too_few : goal.returns-then-comp_has_too_few
returns-then-comp_has_too_few c =
    let inside : c.loop-comp.comp < c.args.comps = omega (arith, c.loop-comp-test.true) in
    sym (c.loop-comp.invariant ∙ any_here (λ (comp : ℕ). has_too_few (quant_of c.args.tile.now.segments.now c.args.main.now.segments.now comp) (shape_of c.args.tile.now.segments.now c.args.main.now.segments.now comp))
    c.loop-comp.comp c.args.comps inside (sym c.comp_has_too_few.ensures ∙ c.if-comp_has_too_few.true))

pub loop-comp-preserved : goal.loop-comp-preserved
loop-comp-preserved c =
    let inside : c.loop-comp.comp < c.args.comps = omega (arith, c.loop-comp-test.true) in
    c.loop-comp.invariant ∙ any_later (λ (comp : ℕ). has_too_few (quant_of c.args.tile.now.segments.now c.args.main.now.segments.now comp) (shape_of c.args.tile.now.segments.now c.args.main.now.segments.now comp))
    c.loop-comp.comp c.args.comps inside (sym c.comp_has_too_few.ensures ∙ c.if-comp_has_too_few.false)
