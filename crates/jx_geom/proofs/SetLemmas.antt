-- The rects hold the places of the sets, and the cells that are counted are those that have a place.
use Rattle.std.proofs.Common.{◌≡◌, ℕ, ◌+◌, ◌-◌, ◌*◌, ◌/◌, ◌^◌, ◌↔◌}
use Rattle.std.proofs.lemmas.Nat.{pow_pos}
use Rattle.jx_base.specs.declared.names.Rect.{Rect}
use Rattle.jx_base.specs.declared.names.Band.{Band}
use Rattle.jx_base.specs.Places.{InRect, column_at, row_at}
use Rattle.jx_geom.specs.declared.shape.CompShape.{CompShape}
use Rattle.jx_geom.specs.Ranges.{ShapeInRange}
use Rattle.jx_geom.specs.Spans.{scaled, cells, cut}
use Rattle.jx_geom.specs.Rects.{component_rect, resolution_rect, band_rect, precinct_cells, block_cells, precinct_part, block_rect, off_across, off_down, band_level, part_across, part_down, block_across, block_down}
use Rattle.jx_geom.specs.Sets.{InResolution, InBand, InCell, InPart, InBlock, HasPlace}
use Rattle.jx_geom.proofs.SpanLemmas.{scaled_to, scaled_from, band_to, band_from, cut_to, cut_from, cells_from, cells_to_place, cell_place}

pub resolution_to : (tile : Rect) (s : CompShape) (r x y : ℕ) → ShapeInRange s → InRect (resolution_rect tile s r) x y → InResolution tile s r x y
unfolding component_rect resolution_rect
resolution_to tile s r x y h i = record {
  across = scaled_to tile.x s.dx (x * 2 ^ (s.levels - r)) h.numbers.step_across (scaled_to (scaled tile.x s.dx) (2 ^ (s.levels - r)) x (pow_pos (s.levels - r)) i.across);
  down = scaled_to tile.y s.dy (y * 2 ^ (s.levels - r)) h.numbers.step_down (scaled_to (scaled tile.y s.dy) (2 ^ (s.levels - r)) y (pow_pos (s.levels - r)) i.down);
}

pub resolution_from : (tile : Rect) (s : CompShape) (r x y : ℕ) → ShapeInRange s → InResolution tile s r x y → InRect (resolution_rect tile s r) x y
unfolding component_rect resolution_rect
resolution_from tile s r x y h i = record {
  across = scaled_from (scaled tile.x s.dx) (2 ^ (s.levels - r)) x (pow_pos (s.levels - r)) (scaled_from tile.x s.dx (x * 2 ^ (s.levels - r)) h.numbers.step_across i.across);
  down = scaled_from (scaled tile.y s.dy) (2 ^ (s.levels - r)) y (pow_pos (s.levels - r)) (scaled_from tile.y s.dy (y * 2 ^ (s.levels - r)) h.numbers.step_down i.down);
}

pub band_rect_to : (tile : Rect) (s : CompShape) (r : ℕ) (b : Band) (x y : ℕ) → ShapeInRange s → InRect (band_rect tile s r b) x y → InBand tile s r b x y
unfolding component_rect band_rect
band_rect_to tile s r b x y h i = record {
  across = scaled_to tile.x s.dx (x * 2 ^ band_level s r b + off_across b * 2 ^ (band_level s r b - 1)) h.numbers.step_across (band_to (scaled tile.x s.dx) (band_level s r b) (off_across b) x i.across);
  down = scaled_to tile.y s.dy (y * 2 ^ band_level s r b + off_down b * 2 ^ (band_level s r b - 1)) h.numbers.step_down (band_to (scaled tile.y s.dy) (band_level s r b) (off_down b) y i.down);
}

pub band_rect_from : (tile : Rect) (s : CompShape) (r : ℕ) (b : Band) (x y : ℕ) → ShapeInRange s → InBand tile s r b x y → InRect (band_rect tile s r b) x y
unfolding component_rect band_rect
band_rect_from tile s r b x y h i = record {
  across = band_from (scaled tile.x s.dx) (band_level s r b) (off_across b) x (scaled_from tile.x s.dx (x * 2 ^ band_level s r b + off_across b * 2 ^ (band_level s r b - 1)) h.numbers.step_across i.across);
  down = band_from (scaled tile.y s.dy) (band_level s r b) (off_down b) y (scaled_from tile.y s.dy (y * 2 ^ band_level s r b + off_down b * 2 ^ (band_level s r b - 1)) h.numbers.step_down i.down);
}

-- a rect of cells, over a rect of places
abbrev pub cells_over : Rect → ℕ → ℕ → Rect
cells_over places wide high = record { x = cells places.x (2 ^ wide); y = cells places.y (2 ^ high) }

pub cell_of_place : (places : Rect) (wide high x y : ℕ) → InRect places x y → InRect (cells_over places wide high) (x / 2 ^ wide) (y / 2 ^ high)
cell_of_place places wide high x y i = record {
  across = cells_from places.x (2 ^ wide) x (pow_pos wide) i.across;
  down = cells_from places.y (2 ^ high) y (pow_pos high) i.down;
}

pub place_of_cell : (places : Rect) (wide high u v : ℕ) → InRect (cells_over places wide high) u v
    → HasPlace (λ x y. InRect places x y × InCell wide high u v x y)
place_of_cell places wide high u v i =
    let across = cells_to_place places.x (2 ^ wide) u (pow_pos wide) i.across in
    let down = cells_to_place places.y (2 ^ high) v (pow_pos high) i.down in (
      cell_place places.x (2 ^ wide) u,
      cell_place places.y (2 ^ high) v,
      (record { across = across.0; down = down.0 }, record { column = across.1; row = down.1 }),
    )

-- the part of a rect of places in one cell
abbrev pub part_over : Rect → ℕ → ℕ → ℕ → ℕ → Rect
part_over places wide high u v = record { x = cut places.x (2 ^ wide) u; y = cut places.y (2 ^ high) v }

pub part_to : (places : Rect) (wide high u v x y : ℕ) → InRect (part_over places wide high u v) x y → InRect places x y × InCell wide high u v x y
part_to places wide high u v x y i =
    let across = cut_to places.x (2 ^ wide) u x (pow_pos wide) i.across in
    let down = cut_to places.y (2 ^ high) v y (pow_pos high) i.down in
    (record { across = across.0; down = down.0 }, record { column = across.1; row = down.1 })

pub part_from : (places : Rect) (wide high u v x y : ℕ) → InRect places x y → InCell wide high u v x y → InRect (part_over places wide high u v) x y
part_from places wide high u v x y i c = record {
  across = cut_from places.x (2 ^ wide) u x (pow_pos wide) i.across c.column;
  down = cut_from places.y (2 ^ high) v y (pow_pos high) i.down c.row;
}

pub block_rect_to : (tile : Rect) (s : CompShape) (r : ℕ) (b : Band) (i x y : ℕ) → ShapeInRange s → InRect (block_rect tile s r b i) x y → InBlock tile s r b i x y
unfolding block_rect
block_rect_to tile s r b i x y h p =
    let split = part_to (band_rect tile s r b) (block_across s r) (block_down s r) (column_at (block_cells tile s r b) i) (row_at (block_cells tile s r b) i) x y p in
    record { place = band_rect_to tile s r b x y h split.0; cell = split.1 }

pub block_rect_from : (tile : Rect) (s : CompShape) (r : ℕ) (b : Band) (i x y : ℕ) → ShapeInRange s → InBlock tile s r b i x y → InRect (block_rect tile s r b i) x y
unfolding block_rect
block_rect_from tile s r b i x y h p =
    part_from (band_rect tile s r b) (block_across s r) (block_down s r) (column_at (block_cells tile s r b) i) (row_at (block_cells tile s r b) i) x y (band_rect_from tile s r b x y h p.place) p.cell

pub precinct_part_to : (tile : Rect) (s : CompShape) (r : ℕ) (b : Band) (k x y : ℕ) → ShapeInRange s → InRect (precinct_part tile s r b k) x y → InPart tile s r b k x y
unfolding precinct_part
precinct_part_to tile s r b k x y h p =
    let split = part_to (band_rect tile s r b) (part_across s r) (part_down s r) (column_at (precinct_cells tile s r) k) (row_at (precinct_cells tile s r) k) x y p in
    record { place = band_rect_to tile s r b x y h split.0; cell = split.1 }

pub precinct_part_from : (tile : Rect) (s : CompShape) (r : ℕ) (b : Band) (k x y : ℕ) → ShapeInRange s → InPart tile s r b k x y → InRect (precinct_part tile s r b k) x y
unfolding precinct_part
precinct_part_from tile s r b k x y h p =
    part_from (band_rect tile s r b) (part_across s r) (part_down s r) (column_at (precinct_cells tile s r) k) (row_at (precinct_cells tile s r) k) x y (band_rect_from tile s r b x y h p.place) p.cell
