use Rattle.std.proofs.Common.{◌∙◌, ◌<◌, arith, sym, ℕ, nat_lt}
use Rattle.jx_codestream.specs.Params.{band_planes, quant_of, shape_of, shift_of}
use Rattle.jx_codestream.proofs.ScanLemmas.{joined_here, joined_later}
use Rattle.jx_codestream.proofs.checks.tile_over.Goals as goal

pub returns-then-is_some : goal.returns-then-is_some
returns-then-is_some c =
    let inside : c.loop-comp.comp < c.args.comps = omega (arith, c.loop-comp-test.true) in
    sym (c.loop-comp.invariant ∙ joined_here (nat_lt 74) (λ (comp : ℕ). band_planes (quant_of c.args.tile.now.segments.now c.args.main.now.segments.now comp) (shape_of c.args.tile.now.segments.now c.args.main.now.segments.now comp) (shift_of c.args.tile.now.segments.now c.args.main.now.segments.now comp))
    c.loop-comp.comp c.args.comps c.comp_over-over.result inside c.comp_over-over.ensures (sym c.is_some.ensures ∙ c.if-is_some.true))

pub loop-comp-preserved : goal.loop-comp-preserved
loop-comp-preserved c =
    let inside : c.loop-comp.comp < c.args.comps = omega (arith, c.loop-comp-test.true) in
    c.loop-comp.invariant ∙ joined_later (nat_lt 74) (λ (comp : ℕ). band_planes (quant_of c.args.tile.now.segments.now c.args.main.now.segments.now comp) (shape_of c.args.tile.now.segments.now c.args.main.now.segments.now comp) (shift_of c.args.tile.now.segments.now c.args.main.now.segments.now comp))
    c.loop-comp.comp c.args.comps c.comp_over-over.result inside c.comp_over-over.ensures (sym c.is_some.ensures ∙ c.if-is_some.false)
