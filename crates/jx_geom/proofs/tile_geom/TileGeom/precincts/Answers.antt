use Rattle.std.proofs.Common.{◌≡◌, ◌≤◌, arith, subst, sym}
use Rattle.std.proofs.lemmas.Grind.{common_steps}
use Rattle.jx_geom.specs.Geometry.{Geometry, GeometryInRange, rect_of_tile, shape_of}
use Rattle.jx_geom.specs.Rects.{precinct_cells}
use Rattle.jx_geom.proofs.CountLemmas.{precincts_limited}
use Rattle.std.proofs.Common.{◌^◌}
use Rattle.jx_base.specs.declared.names.Rect.{Rect}
use Rattle.jx_base.specs.Places.{size_of}
use Rattle.jx_geom.proofs.tile_geom.TileGeom.precincts.Goals as goal

pub returns-clause-bound : goal.returns-clause-bound
returns-clause-bound c =
    let P : Geometry → Type 0 = λ g. GeometryInRange g in
    let range : GeometryInRange c.args.self.now = subst P c.self.view_is c.self.invariant.0 in
    let e : c.precincts_of-cells.result ≡ precinct_cells (rect_of_tile c.args.self.now) (shape_of c.args.self.now c.args.comp) c.args.res = grind (arith, common_steps) in
    let Q : Rect → Type 0 = λ r. size_of r ≤ 2 ^ 22 in
    let bound : size_of c.precincts_of-cells.result ≤ 2 ^ 22 = subst Q (sym e) (precincts_limited c.args.self.now c.args.comp c.args.res range c.requires) in
    rw (c.saturating_sub.ensures, c.saturating_sub-2.ensures) bound
