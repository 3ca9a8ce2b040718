use Rattle.std.proofs.Common.{◌≡◌, subst}
use Rattle.jx_geom.specs.Geometry.{Geometry, GeometryInRange, rect_of_tile}
use Rattle.jx_geom.proofs.TileLemmas.{tile_rect_places}
use Rattle.std.proofs.Common.{◌∙◌, ap}
use Rattle.jx_geom.proofs.tile_geom.TileGeom.tile.Goals as goal

pub returns-clause-places : goal.returns-clause-places
returns-clause-places c =
    let P : Geometry → Type 0 = λ g. GeometryInRange g in
    let range : GeometryInRange c.args.self.now = subst P c.self.view_is c.self.invariant.0 in
    let places : c.self.inside.places ≡ rect_of_tile c.args.self.now = c.self.invariant.1 ∙ ap (λ (g : Geometry). rect_of_tile g) c.self.view_is in
    tile_rect_places c.args.self.now.canvas c.args.self.now.tile c.self.inside.places range.canvas places
