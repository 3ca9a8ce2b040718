-- Both directions: where precincts stand.
use Rattle.std.proofs.Common.{◌≡◌, ℕ, ◌-◌, ◌*◌, ◌^◌, ◌≤◌, ◌<◌, max, arith}
use Rattle.std.proofs.Math.Nat.{mul_assoc, one-le-mul}
use Rattle.std.proofs.lemmas.Nat.{pow_pos}
use Rattle.jx_base.specs.declared.names.Rect.{Rect}
use Rattle.jx_base.specs.Places.{InSpan, column_at, row_at}
use Rattle.jx_geom.specs.declared.shape.CompShape.{CompShape}
use Rattle.jx_geom.specs.Ranges.{ShapeInRange, exponent_across, exponent_down}
use Rattle.jx_geom.specs.Rects.{component_rect, resolution_rect, precinct_cells, precinct_column_point, precinct_row_point}
use Rattle.jx_geom.specs.Counts.{precinct_count}
use Rattle.jx_geom.proofs.SpanLemmas.{twice_scaled_times, grows_by, reference_latest}
use Rattle.jx_base.proofs.Raster.{raster_in}

-- what the first place of a counted precinct stands for lies before the tile's end
pub precinct_column_fits : (tile : Rect) (s : CompShape) (r k : ℕ) → ShapeInRange s → k < precinct_count tile s r
    → column_at (precinct_cells tile s r) k * 2 ^ exponent_across s r * (2 ^ (s.levels - r) * s.dx) < tile.x.high
unfolding component_rect resolution_rect precinct_cells
precinct_column_fits tile s r k h lt =
    let place = raster_in (precinct_cells tile s r) k lt in
    rw (← mul_assoc (column_at (precinct_cells tile s r) k * 2 ^ exponent_across s r) (2 ^ (s.levels - r)) s.dx)
    (twice_scaled_times tile.x s.dx (2 ^ (s.levels - r)) (2 ^ exponent_across s r) (column_at (precinct_cells tile s r) k)
    h.numbers.step_across (pow_pos (s.levels - r)) (pow_pos (exponent_across s r)) place.across)

pub precinct_row_fits : (tile : Rect) (s : CompShape) (r k : ℕ) → ShapeInRange s → k < precinct_count tile s r
    → row_at (precinct_cells tile s r) k * 2 ^ exponent_down s r * (2 ^ (s.levels - r) * s.dy) < tile.y.high
unfolding component_rect resolution_rect precinct_cells
precinct_row_fits tile s r k h lt =
    let place = raster_in (precinct_cells tile s r) k lt in
    rw (← mul_assoc (row_at (precinct_cells tile s r) k * 2 ^ exponent_down s r) (2 ^ (s.levels - r)) s.dy)
    (twice_scaled_times tile.y s.dy (2 ^ (s.levels - r)) (2 ^ exponent_down s r) (row_at (precinct_cells tile s r) k)
    h.numbers.step_down (pow_pos (s.levels - r)) (pow_pos (exponent_down s r)) place.down)

-- so does that place itself
shrinks : (a b d : ℕ) → 0 < b → a * b < d → a < d
shrinks a b d hb h = let step : a ≤ a * b = grows_by a b hb in omega arith

pub precinct_column_low : (tile : Rect) (s : CompShape) (r k : ℕ) → ShapeInRange s → k < precinct_count tile s r
    → column_at (precinct_cells tile s r) k * 2 ^ exponent_across s r < tile.x.high
precinct_column_low tile s r k h lt =
    shrinks (column_at (precinct_cells tile s r) k * 2 ^ exponent_across s r) (2 ^ (s.levels - r) * s.dx) tile.x.high
    (one-le-mul (pow_pos (s.levels - r)) h.numbers.step_across) (precinct_column_fits tile s r k h lt)

pub precinct_row_low : (tile : Rect) (s : CompShape) (r k : ℕ) → ShapeInRange s → k < precinct_count tile s r
    → row_at (precinct_cells tile s r) k * 2 ^ exponent_down s r < tile.y.high
precinct_row_low tile s r k h lt =
    shrinks (row_at (precinct_cells tile s r) k * 2 ^ exponent_down s r) (2 ^ (s.levels - r) * s.dy) tile.y.high
    (one-le-mul (pow_pos (s.levels - r)) h.numbers.step_down) (precinct_row_fits tile s r k h lt)

-- where a precinct stands, as the later of two places
pub precinct_column_latest : (tile : Rect) (s : CompShape) (r k : ℕ) → ShapeInRange s → k < precinct_count tile s r
    → precinct_column_point tile s r (column_at (precinct_cells tile s r) k)
    ≡ max tile.x.low (column_at (precinct_cells tile s r) k * (2 ^ exponent_across s r * (2 ^ (s.levels - r) * s.dx)))
unfolding component_rect resolution_rect precinct_cells precinct_column_point
precinct_column_latest tile s r k h lt =
    let place = raster_in (precinct_cells tile s r) k lt in
    reference_latest tile.x s.dx (2 ^ (s.levels - r)) (2 ^ exponent_across s r) (column_at (precinct_cells tile s r) k)
    h.numbers.step_across (pow_pos (s.levels - r)) (pow_pos (exponent_across s r)) place.across

pub precinct_row_latest : (tile : Rect) (s : CompShape) (r k : ℕ) → ShapeInRange s → k < precinct_count tile s r
    → precinct_row_point tile s r (row_at (precinct_cells tile s r) k)
    ≡ max tile.y.low (row_at (precinct_cells tile s r) k * (2 ^ exponent_down s r * (2 ^ (s.levels - r) * s.dy)))
unfolding component_rect resolution_rect precinct_cells precinct_row_point
precinct_row_latest tile s r k h lt =
    let place = raster_in (precinct_cells tile s r) k lt in
    reference_latest tile.y s.dy (2 ^ (s.levels - r)) (2 ^ exponent_down s r) (row_at (precinct_cells tile s r) k)
    h.numbers.step_down (pow_pos (s.levels - r)) (pow_pos (exponent_down s r)) place.down

-- and that lies in the tile
pub precinct_column_inside : (tile : Rect) (s : CompShape) (r k : ℕ) → ShapeInRange s → k < precinct_count tile s r → tile.x.low < tile.x.high
    → InSpan tile.x (precinct_column_point tile s r (column_at (precinct_cells tile s r) k))
precinct_column_inside tile s r k h lt some =
    let e = precinct_column_latest tile s r k h lt in
    let below = precinct_column_fits tile s r k h lt in
    record { from = rw e (omega arith); below = rw e (omega arith) }

pub precinct_row_inside : (tile : Rect) (s : CompShape) (r k : ℕ) → ShapeInRange s → k < precinct_count tile s r → tile.y.low < tile.y.high
    → InSpan tile.y (precinct_row_point tile s r (row_at (precinct_cells tile s r) k))
precinct_row_inside tile s r k h lt some =
    let e = precinct_row_latest tile s r k h lt in
    let below = precinct_row_fits tile s r k h lt in
    record { from = rw e (omega arith); below = rw e (omega arith) }
