use Rattle.std.proofs.Common.{◌∙◌, sym}
use Rattle.jx_codestream.specs.Params.{tile_has_too_few}
use Rattle.jx_codestream.proofs.ScanLemmas.{tile_here, tile_later, tile_test}
use Rattle.jx_codestream.proofs.checks.check_entries.Goals as goal

pub returns-then-branch : goal.returns-then-branch
returns-then-branch c =
    tile_here (tile_has_too_few c.args.main.now.segments.now c.args.comps) c.args.tiles.now c.loop-tile.tile-index c.tile-item.result c.loop-tile-test.true c.tile-item.is
    (sym (tile_test c.args.main.now.segments.now c.as_slice.result.now c.args.comps c.tile-item.result c.as_slice.ensures) ∙ sym c.in_ok-is_short.ensures ∙ c.if-branch.true)
    c.loop-tile.invariant

pub loop-tile-preserved : goal.loop-tile-preserved
loop-tile-preserved c =
    tile_later (tile_has_too_few c.args.main.now.segments.now c.args.comps) c.args.tiles.now c.loop-tile.tile-index c.tile-item.result c.loop-tile-test.true c.tile-item.is
    (sym (tile_test c.args.main.now.segments.now c.as_slice.result.now c.args.comps c.tile-item.result c.as_slice.ensures) ∙ sym c.in_ok-is_short.ensures ∙ c.if-branch.false)
    c.loop-tile.invariant
