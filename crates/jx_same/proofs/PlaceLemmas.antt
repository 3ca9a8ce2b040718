-- The code-block that has a place of a band.
use Rattle.std.proofs.Common.{◌≡◌, ◌∙◌, ℕ, ◌+◌, ◌-◌, ◌/◌, ◌^◌, ◌<◌, ap, sym, refl}
use Rattle.std.proofs.lemmas.Nat.{pow_pos}
use Rattle.jx_base.specs.declared.names.Band.{Band}
use Rattle.jx_base.specs.declared.names.Band.TheVariants.{LL, HL, LH, HH}
use Rattle.jx_base.specs.declared.names.Rect.{Rect}
use Rattle.jx_base.specs.Places.{InRect, column_at, number_at, row_at, size_of}
use Rattle.jx_base.proofs.Raster.{number_below, number_column, number_row, raster_one}
use Rattle.jx_geom.specs.declared.shape.CompShape.{CompShape}
use Rattle.jx_geom.specs.Rects.{band_level, band_rect, block_across, block_cells, block_down, block_rect, component_rect}
use Rattle.jx_geom.proofs.SpanLemmas.{cells_from, cut_from, cut_to}

-- a place of a block lies in its band, and in one block of the band alone
pub in_band : (tile : Rect) (s : CompShape) (r : ℕ) (b : Band) (i x y : ℕ) → InRect (block_rect tile s r b i) x y → InRect (band_rect tile s r b) x y
unfolding block_rect
in_band tile s r b i x y h =
    let across = cut_to (band_rect tile s r b).x (2 ^ block_across s r) (column_at (block_cells tile s r b) i) x (pow_pos (block_across s r)) h.across in
    let down = cut_to (band_rect tile s r b).y (2 ^ block_down s r) (row_at (block_cells tile s r b) i) y (pow_pos (block_down s r)) h.down in
    record { across = across.0; down = down.0 }

pub one_block : (tile : Rect) (s : CompShape) (r : ℕ) (b : Band) (i j x y : ℕ) → InRect (block_rect tile s r b i) x y → InRect (block_rect tile s r b j) x y → i ≡ j
unfolding block_rect
one_block tile s r b i j x y h k =
    let wide = block_across s r in
    let high = block_down s r in
    let band = band_rect tile s r b in
    let blocks = block_cells tile s r b in
    let i_across = cut_to band.x (2 ^ wide) (column_at blocks i) x (pow_pos wide) h.across in
    let i_down = cut_to band.y (2 ^ high) (row_at blocks i) y (pow_pos high) h.down in
    let j_across = cut_to band.x (2 ^ wide) (column_at blocks j) x (pow_pos wide) k.across in
    let j_down = cut_to band.y (2 ^ high) (row_at blocks j) y (pow_pos high) k.down in
    raster_one blocks i j (sym i_across.1 ∙ j_across.1) (sym i_down.1 ∙ j_down.1)

-- the index of that block
abbrev pub index_over : Rect → CompShape → ℕ → Band → ℕ → ℕ → ℕ
index_over tile s r b x y = number_at (block_cells tile s r b) (x / 2 ^ block_across s r) (y / 2 ^ block_down s r)

pub cell_there : (tile : Rect) (s : CompShape) (r : ℕ) (b : Band) (x y : ℕ) → InRect (band_rect tile s r b) x y
    → InRect (block_cells tile s r b) (x / 2 ^ block_across s r) (y / 2 ^ block_down s r)
unfolding block_cells
cell_there tile s r b x y h = record {
  across = cells_from (band_rect tile s r b).x (2 ^ block_across s r) x (pow_pos (block_across s r)) h.across;
  down = cells_from (band_rect tile s r b).y (2 ^ block_down s r) y (pow_pos (block_down s r)) h.down;
}

pub over_below : (tile : Rect) (s : CompShape) (r : ℕ) (b : Band) (x y : ℕ) → InRect (band_rect tile s r b) x y → index_over tile s r b x y < size_of (block_cells tile s r b)
over_below tile s r b x y h = number_below (block_cells tile s r b) (x / 2 ^ block_across s r) (y / 2 ^ block_down s r) (cell_there tile s r b x y h)

pub over_has : (tile : Rect) (s : CompShape) (r : ℕ) (b : Band) (x y : ℕ) → InRect (band_rect tile s r b) x y → InRect (block_rect tile s r b (index_over tile s r b x y)) x y
unfolding block_rect
over_has tile s r b x y h =
    let wide = block_across s r in
    let high = block_down s r in
    let there = cell_there tile s r b x y h in
    let column = number_column (block_cells tile s r b) (x / 2 ^ wide) (y / 2 ^ high) there in
    let row = number_row (block_cells tile s r b) (x / 2 ^ wide) (y / 2 ^ high) there in
    record {
      across = cut_from (band_rect tile s r b).x (2 ^ wide) (column_at (block_cells tile s r b) (index_over tile s r b x y)) x (pow_pos wide) h.across (sym column);
      down = cut_from (band_rect tile s r b).y (2 ^ high) (row_at (block_cells tile s r b) (index_over tile s r b x y)) y (pow_pos high) h.down (sym row);
    }

-- bands have the same places where the sampling and the levels are the same
same_component : (tile : Rect) (s t : CompShape) → s.dx ≡ t.dx → s.dy ≡ t.dy → component_rect tile s ≡ component_rect tile t
unfolding component_rect
same_component tile s t dx dy = rw (dx, dy) refl

same_level : (s t : CompShape) (r : ℕ) (b : Band) → s.levels ≡ t.levels → band_level s r b ≡ band_level t r b
same_level s t r LL e = e
same_level s t r HL e = ap (λ n. n - r + 1) e
same_level s t r LH e = ap (λ n. n - r + 1) e
same_level s t r HH e = ap (λ n. n - r + 1) e

pub same_band : (tile : Rect) (s t : CompShape) (r : ℕ) (b : Band) → s.dx ≡ t.dx → s.dy ≡ t.dy → s.levels ≡ t.levels → band_rect tile s r b ≡ band_rect tile t r b
unfolding band_rect
same_band tile s t r b dx dy levels = rw (same_component tile s t dx dy, same_level s t r b levels) refl
