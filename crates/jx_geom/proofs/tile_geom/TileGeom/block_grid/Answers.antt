use Rattle.std.proofs.Common.{◌∙◌, ap, arith, subst}
use Rattle.jx_base.specs.declared.names.Rect.{Rect}
use Rattle.jx_geom.specs.declared.shape.CompShape.{CompShape}
use Rattle.jx_geom.specs.Counts.{block_count}
use Rattle.jx_geom.specs.Geometry.{Geometry, GeometryInRange, rect_of_tile}
use Rattle.jx_geom.proofs.CountLemmas.{blocks_limited}
use Rattle.jx_geom.proofs.tile_geom.TileGeom.block_grid.Goals as goal

pub grid_of-requires-clause-few : goal.grid_of-requires-clause-few
grid_of-requires-clause-few c =
    let P : Geometry → Type 0 = λ g. GeometryInRange g in
    let range = subst P c.self.view_is c.self.invariant.0 in
    let places = c.self.invariant.1 ∙ ap (λ (g : Geometry). rect_of_tile g) c.self.view_is in
    let first = ap (λ (t : Rect). block_count t c.shape.result.now c.args.res c.args.band) places in
    let second = ap (λ (s : CompShape). block_count (rect_of_tile c.args.self.now) s c.args.res c.args.band) c.shape.ensures.value in
    omega (arith, first, second, blocks_limited c.args.self.now c.args.comp c.args.res c.args.band range c.requires.res c.requires.band)
