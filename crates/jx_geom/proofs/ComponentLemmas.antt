-- The rect of a tile-component holds its places.
use Rattle.std.proofs.Common.{ℕ}
use Rattle.jx_base.specs.declared.names.Rect.{Rect}
use Rattle.jx_base.specs.Places.{InRect}
use Rattle.jx_geom.specs.declared.shape.CompShape.{CompShape}
use Rattle.jx_geom.specs.Ranges.{ShapeInRange}
use Rattle.jx_geom.specs.Rects.{component_rect}
use Rattle.jx_geom.specs.Sets.{InComponent}
use Rattle.jx_geom.proofs.SpanLemmas.{scaled_to, scaled_from}

pub component_to : (tile : Rect) (s : CompShape) (x y : ℕ) → ShapeInRange s → InRect (component_rect tile s) x y → InComponent tile s x y
unfolding component_rect
component_to tile s x y h i = record {
  across = scaled_to tile.x s.dx x h.numbers.step_across i.across;
  down = scaled_to tile.y s.dy y h.numbers.step_down i.down;
}

pub component_from : (tile : Rect) (s : CompShape) (x y : ℕ) → ShapeInRange s → InComponent tile s x y → InRect (component_rect tile s) x y
unfolding component_rect
component_from tile s x y h i = record {
  across = scaled_from tile.x s.dx x h.numbers.step_across i.across;
  down = scaled_from tile.y s.dy y h.numbers.step_down i.down;
}
