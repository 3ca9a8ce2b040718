use Rattle.std.proofs.Common.{◌∙◌, ◌≤◌, ◌^◌, List, ap, length, subst, sym}
use Rattle.jx_geom.specs.declared.shape.Canvas.{Canvas}
use Rattle.jx_geom.specs.declared.shape.CompShape.{CompShape}
use Rattle.jx_geom.specs.Geometry.{ShapesInRange, WithinLimits}
use Rattle.jx_codestream.specs.First.{canvas_of}
use Rattle.jx_codestream.specs.Shapes.{shapes_in, shapes_of}
use Rattle.jx_codestream.specs.TileHeaders.{TileHeaders}
use Rattle.jx_tile.proofs.TotalLemmas.{few_shapes, tile_within}
use Rattle.jx_tile.proofs.frame.geometry_of.Goals as goal

pub sharing-requires-clause-limits : goal.sharing-requires-clause-limits
sharing-requires-clause-limits c =
    let s = c.args.stream.now in
    let shapes = c.in_ok-shapes.ensures ∙ c.shared_shapes.ensures.value ∙ ap shapes_in c.requires.view in
    let canvas = c.canvas.ensures.value ∙ ap (λ (h : TileHeaders). canvas_of h.siz) c.requires.view in
    let P : Canvas → Type 0 = λ x. WithinLimits x c.args.tile (shapes_of s c.args.tile) in
    let Q : List CompShape → Type 0 = λ x. WithinLimits c.canvas.result c.args.tile x in
    subst Q (sym shapes) (subst P (sym canvas) (tile_within s c.args.tile c.requires.range c.requires.totals c.requires.tile))

pub sharing-requires-clause-few : goal.sharing-requires-clause-few
sharing-requires-clause-few c =
    let P : List CompShape → Type 0 = λ x. length x ≤ 2 ^ 14 in
    subst P (sym (c.in_ok-shapes.ensures ∙ c.shared_shapes.ensures.value ∙ ap shapes_in c.requires.view)) (few_shapes c.args.stream.now c.args.tile c.requires.range)

pub sharing-requires-clause-comps : goal.sharing-requires-clause-comps
sharing-requires-clause-comps c =
    let P : List CompShape → Type 0 = λ x. ShapesInRange x in
    subst P (sym c.in_ok-shapes.ensures) c.shared_shapes.ensures.range
