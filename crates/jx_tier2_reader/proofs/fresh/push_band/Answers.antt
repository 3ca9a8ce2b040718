use Rattle.std.proofs.Common.{◌≡◌, ◌++◌, ◌∷◌, [], ℕ, ap, sym, subst, ◌∙◌, arith}
use Rattle.jx_base.specs.declared.pieces.Block.{Block}
use Rattle.jx_geom.specs.Geometry.{Geometry, HasResolution, rect_of_tile, shape_of}
use Rattle.jx_codestream.specs.Params.{planes_at, planes_in}
use Rattle.jx_codestream.specs.Shapes.{style_in, style_of}
use Rattle.jx_codestream.specs.TileHeaders.{TileHeaders}
use Rattle.jx_tier2_reader.specs.Blocks.{one_block}
use Rattle.jx_tier2_reader.proofs.ListLemmas.{fresh_is}
use Rattle.jx_tier2_reader.proofs.fresh.push_band.Goals as goal
use Rattle.jx_base.proofs.Joined.{appends_none, appends_next}

pub loop-index-init : goal.loop-index-init
loop-index-init c =
    appends_none c.args.list.now.items (one_block c.args.stream.now c.args.geom.now [] c.args.comp c.args.res c.args.band) 0 0 (omega arith)

pub overflow_cast-planes : goal.overflow_cast-planes
overflow_cast-planes c =
    let s = c.args.stream.now in
    let there = subst (λ (g : Geometry). HasResolution g c.args.comp c.args.res) c.requires.tile.geometry c.requires.res in
    omega (
      arith,
      c.planes-planes.ensures.value,
      ap (λ (h : TileHeaders). planes_in h c.args.comp c.args.res c.args.band) c.requires.tile.view,
      c.requires.tile.range.planes c.args.geom.now.tile c.args.comp c.args.res c.args.band c.requires.tile.tile there c.requires.band,
    )

pub loop-index-preserved : goal.loop-index-preserved
loop-index-preserved c =
    let s = c.args.stream.now in
    let tile = sym c.number-tile.ensures in
    let style = c.style-style.ensures ∙ ap (λ (h : TileHeaders). style_in h c.args.comp) c.requires.tile.view ∙ ap (λ (t : ℕ). style_of s t c.args.comp) tile in
    let planes = c.planes-planes.ensures.value ∙ ap (λ (h : TileHeaders). planes_in h c.args.comp c.args.res c.args.band) c.requires.tile.view
    ∙ ap (λ (t : ℕ). planes_at s t c.args.comp c.args.res c.args.band) tile in
    let places = c.block-places.ensures (rect_of_tile c.args.geom.now) (shape_of c.args.geom.now c.args.comp) c.args.res c.args.band c.block_grid-grid.ensures in
    let block = fresh_is s c.args.geom.now c.args.comp c.args.res c.args.band c.loop-index.index c.number-tile.result c.planes-planes.result
    c.style-style.result c.block-places.result c.fresh_block.result c.number-tile.ensures style planes places c.fresh_block.ensures in
    let step : c.push.new.self.items ≡ c.loop-index.list.items ++ one_block s c.args.geom.now [] c.args.comp c.args.res c.args.band c.loop-index.index =
    c.in_ok-push.ensures.items ∙ ap (λ (x : Block). c.loop-index.list.items ++ x ∷ []) block in
    appends_next c.args.list.now.items c.loop-index.list.items c.push.new.self.items
    (one_block s c.args.geom.now [] c.args.comp c.args.res c.args.band) 0 c.loop-index.index (omega arith) c.loop-index.invariant step
