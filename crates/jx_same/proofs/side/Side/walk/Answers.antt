use Rattle.std.proofs.Common.{◌≡◌, ◌∙◌, ap}
use Rattle.jx_base.specs.declared.names.Rect.{Rect}
use Rattle.jx_base.specs.Places.{size_of}
use Rattle.jx_geom.specs.Geometry.{Geometry, blocks_in}
use Rattle.jx_same.specs.Sides.{SideValue, geometry_at}
use Rattle.jx_same.proofs.side.Side.walk.Goals as goal

pub returns : goal.returns
returns c =
    let n = c.args.name in
    let rect : c.cells-blocks.result ≡ blocks_in (geometry_at c.args.self.now) n.comp n.res n.band =
    c.cells-blocks.ensures.value ∙ ap (λ (g : Geometry). blocks_in g n.comp n.res n.band) c.parts.ensures.geometry
    ∙ ap (λ (v : SideValue). blocks_in (geometry_at v) n.comp n.res n.band) c.self.view_is in
    record {
      count = rw (c.len-wide.ensures, c.len-high.ensures) c.area-area.ensures;
      all = c.area-area.ensures ∙ ap (λ (r : Rect). size_of r) rect;
      columns = c.in_cells-own.ensures.columns;
      rows = c.in_cells-own.ensures.rows;
    }
