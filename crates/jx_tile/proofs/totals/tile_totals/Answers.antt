use Rattle.std.proofs.Common.{◌≡◌, ◌∙◌, ◌<◌, ◌≤◌, ◌*◌, ◌^◌, ℕ, List, length, ap, subst, sym, arith}
use Rattle.jx_base.specs.declared.names.Rect.{Rect}
use Rattle.jx_geom.specs.declared.shape.Canvas.{Canvas}
use Rattle.jx_geom.specs.declared.shape.CompShape.{CompShape}
use Rattle.jx_geom.specs.Counts.{tile_blocks, tile_count, tile_precincts}
use Rattle.jx_geom.specs.Rects.{tile_rect}
use Rattle.jx_codestream.specs.First.{canvas_of}
use Rattle.jx_codestream.specs.Shapes.{shapes_in, shapes_of, layers_in}
use Rattle.jx_codestream.specs.TileHeaders.{TileHeaders}
use Rattle.jx_tile.proofs.TotalLemmas.{few_shapes}
use Rattle.jx_tile.proofs.totals.tile_totals.Goals as goal

pub count_tile-counts-requires-clause-few : goal.count_tile-counts-requires-clause-few
count_tile-counts-requires-clause-few c =
    let P : List CompShape → Type 0 = λ x. length x ≤ 2 ^ 14 in
    subst P (sym (c.shapes.ensures.value ∙ ap shapes_in c.in_ok-view.ensures)) (few_shapes c.args.stream.now c.args.tile c.requires.range)

pub count_tile-counts-requires-clause-range : goal.count_tile-counts-requires-clause-range
count_tile-counts-requires-clause-range c = c.shapes.ensures.range

pub tile_of-requires-clause-canvas : goal.tile_of-requires-clause-canvas
tile_of-requires-clause-canvas c = c.canvas.ensures.range

pub tile_of-requires-clause-tile : goal.tile_of-requires-clause-tile
tile_of-requires-clause-tile c =
    subst (λ (x : Canvas). c.args.tile < tile_count x) (sym (c.canvas.ensures.value ∙ ap (λ (h : TileHeaders). canvas_of h.siz) c.in_ok-view.ensures)) c.requires.tile

pub returns-clause-few_blocks : goal.returns-clause-few_blocks
returns-clause-few_blocks c = c.count_tile-counts.ensures.few_blocks

pub returns-clause-blocks : goal.returns-clause-blocks
returns-clause-blocks c =
    let s = c.args.stream.now in
    let shapes = c.shapes.ensures.value ∙ ap shapes_in c.in_ok-view.ensures in
    let canvas = c.canvas.ensures.value ∙ ap (λ (h : TileHeaders). canvas_of h.siz) c.in_ok-view.ensures in
    c.count_tile-counts.ensures.blocks
    ∙ ap (λ (xs : List CompShape). tile_blocks c.tile_of.result xs) shapes
    ∙ ap (λ (r : Rect). tile_blocks r (shapes_of s c.args.tile)) c.tile_of.ensures
    ∙ ap (λ (x : Canvas). tile_blocks (tile_rect x c.args.tile) (shapes_of s c.args.tile)) canvas

pub returns-clause-packets : goal.returns-clause-packets
returns-clause-packets c =
    let s = c.args.stream.now in
    let shapes = c.shapes.ensures.value ∙ ap shapes_in c.in_ok-view.ensures in
    let canvas = c.canvas.ensures.value ∙ ap (λ (h : TileHeaders). canvas_of h.siz) c.in_ok-view.ensures in
    let precincts = c.count_tile-counts.ensures.precincts
    ∙ ap (λ (xs : List CompShape). tile_precincts c.tile_of.result xs) shapes
    ∙ ap (λ (r : Rect). tile_precincts r (shapes_of s c.args.tile)) c.tile_of.ensures
    ∙ ap (λ (x : Canvas). tile_precincts (tile_rect x c.args.tile) (shapes_of s c.args.tile)) canvas in
    let same : c.from-layers.result ≡ c.layers.result = omega (arith, c.from-layers.ensures) in
    let layers = same ∙ c.layers.ensures.value ∙ ap layers_in c.in_ok-view.ensures in
    ap (λ (n : ℕ). n * c.from-layers.result) precincts ∙ ap (λ (n : ℕ). tile_precincts (tile_rect (canvas_of s.siz) c.args.tile) (shapes_of s c.args.tile) * n) layers
