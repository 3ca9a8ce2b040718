use Rattle.std.proofs.Common.{◌≡◌, ◌≤◌, arith, subst, sym}
use Rattle.std.proofs.lemmas.Grind.{common_steps}
use Rattle.jx_geom.specs.Geometry.{Geometry, GeometryInRange, rect_of_tile, shape_of}
use Rattle.jx_geom.specs.Ranges.{ShapeInRange}
use Rattle.jx_geom.specs.Rects.{block_cells}
use Rattle.jx_geom.proofs.LawLemmas.{block_cell_places}
use Rattle.jx_geom.proofs.CountLemmas.{blocks_limited}
use Rattle.jx_base.specs.declared.names.Rect.{Rect}
use Rattle.jx_base.specs.Places.{size_of}
use Rattle.jx_geom.proofs.tile_geom.TileGeom.cells.Goals as goal
use Rattle.jx_base.specs.Limits.{most_blocks}

pub returns-clause-places : goal.returns-clause-places
returns-clause-places c =
    let e : c.blocks_of.result ≡ block_cells (rect_of_tile c.args.self.now) (shape_of c.args.self.now c.args.comp) c.args.res c.args.band = grind (arith, common_steps) in
    let h : ShapeInRange (shape_of c.args.self.now c.args.comp) = rw c.shape.ensures.value at c.shape.ensures.range in
    block_cell_places (rect_of_tile c.args.self.now) (shape_of c.args.self.now c.args.comp) c.args.res c.args.band c.blocks_of.result h e

pub returns-clause-bound : goal.returns-clause-bound
returns-clause-bound c =
    let P : Geometry → Type 0 = λ g. GeometryInRange g in
    let range : GeometryInRange c.args.self.now = subst P c.self.view_is c.self.invariant.0 in
    let e : c.blocks_of.result ≡ block_cells (rect_of_tile c.args.self.now) (shape_of c.args.self.now c.args.comp) c.args.res c.args.band = grind (arith, common_steps) in
    let Q : Rect → Type 0 = λ r. size_of r ≤ most_blocks in
    subst Q (sym e) (blocks_limited c.args.self.now c.args.comp c.args.res c.args.band range c.requires.res c.requires.band)
