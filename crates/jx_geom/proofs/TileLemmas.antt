-- A tile's rect holds the places of its cell in the grid of tiles, and each place of the picture lies in one.
use Rattle.std.proofs.Common.{◌≡◌, ℕ, ◌+◌, ◌-◌, ◌*◌, ◌/◌, ◌%◌, ◌≤◌, ◌<◌, ◌↔◌, ◌∙◌, min, max, refl, arith, sym}
use Rattle.std.proofs.Math.Nat.{div-eq_of_lt-le}
use Rattle.std.proofs.lemmas.Nat.{div-mul-add, mod-mul-add, mul-add-lt}
use Rattle.jx_base.specs.declared.names.Rect.{Rect}
use Rattle.jx_base.specs.Places.{InSpan, InRect, ExactlyOne, span_of}
use Rattle.jx_base.proofs.Ceilings.{ceil_above}
use Rattle.jx_geom.specs.declared.shape.Canvas.{Canvas}
use Rattle.jx_geom.specs.Ranges.{CanvasInRange}
use Rattle.jx_geom.specs.Spans.{tiles_along, tile_span}
use Rattle.jx_geom.specs.Rects.{tile_rect, tiles_across, tiles_down}
use Rattle.jx_geom.specs.Counts.{tile_count}
use Rattle.jx_geom.specs.Sets.{InPicture, InTile, HasPlace}
use Rattle.jx_geom.proofs.SpanLemmas.{in_cell_low, in_cell_high, tile_span_fits, TileSpanFits}
use Rattle.jx_base.proofs.Raster.{row_below, column_below, same_number}

tile_span_to : (start end offset size p x : ℕ) → 0 < size → offset ≤ start → InSpan (tile_span start end offset size p) x
    → InSpan (span_of start end) x × ((x - offset) / size ≡ p)
unfolding tile_span
tile_span_to start end offset size p x hs ho i =
    let from : max (offset + p * size) start ≤ x = i.from in
    let below : x < min (offset + (p + 1) * size) end = i.below in
    let low : p * size ≤ x - offset = omega arith in
    let high : x - offset < (p + 1) * size = omega arith in
    (record { from = omega arith; below = omega arith }, div-eq_of_lt-le size low high)

tile_span_from : (start end offset size p x : ℕ) → 0 < size → offset ≤ start → InSpan (span_of start end) x
    → (x - offset) / size ≡ p → InSpan (tile_span start end offset size p) x
unfolding tile_span
tile_span_from start end offset size p x hs ho i e =
    let from : start ≤ x = i.from in
    let below : x < end = i.below in
    let low : p * size ≤ x - offset = in_cell_low (x - offset) size p hs e in
    let high : x - offset < (p + 1) * size = in_cell_high (x - offset) size p hs e in
    record { from = omega arith; below = omega arith }

pub tile_to : (c : Canvas) (t x y : ℕ) → CanvasInRange c → InRect (tile_rect c t) x y → InTile c t x y
unfolding tile_rect
tile_to c t x y h i =
    let across = tile_span_to c.x0 c.x1 c.tx c.tw (t % tiles_across c) x h.wide h.offset_across i.across in
    let down = tile_span_to c.y0 c.y1 c.ty c.th (t / tiles_across c) y h.high h.offset_down i.down in
    record { place = record { across = across.0; down = down.0 }; column = across.1; row = down.1 }

pub tile_from : (c : Canvas) (t x y : ℕ) → CanvasInRange c → InTile c t x y → InRect (tile_rect c t) x y
unfolding tile_rect
tile_from c t x y h i = record {
  across = tile_span_from c.x0 c.x1 c.tx c.tw (t % tiles_across c) x h.wide h.offset_across i.place.across i.column;
  down = tile_span_from c.y0 c.y1 c.ty c.th (t / tiles_across c) y h.high h.offset_down i.place.down i.row;
}

pub tile_rect_places : (c : Canvas) (t : ℕ) (rect : Rect) → CanvasInRange c → rect ≡ tile_rect c t → (x y : ℕ) → InRect rect x y ↔ InTile c t x y
tile_rect_places c t rect h e x y = (λ i. tile_to c t x y h (rw e at i), λ i. rw e (tile_from c t x y h i))

-- its first place
tile_corner : (c : Canvas) (t : ℕ) → TileSpanFits c.x0 c.x1 (tile_span c.x0 c.x1 c.tx c.tw (t % tiles_across c))
    → TileSpanFits c.y0 c.y1 (tile_span c.y0 c.y1 c.ty c.th (t / tiles_across c))
    → InRect (tile_rect c t) (tile_span c.x0 c.x1 c.tx c.tw (t % tiles_across c)).low (tile_span c.y0 c.y1 c.ty c.th (t / tiles_across c)).low
unfolding tile_rect
tile_corner c t column row = record {
  across = record { from = omega arith; below = column.some };
  down = record { from = omega arith; below = row.some };
}

-- no tile that is counted is empty
pub tile_some : (c : Canvas) (t : ℕ) → CanvasInRange c → t < tile_count c → HasPlace (InTile c t)
tile_some c t h lt =
    let column = tile_span_fits c.x0 c.x1 c.tx c.tw (t % tiles_across c) h.wide h.offset_across h.some_across h.first_across
    (column_below t (tiles_across c) (tiles_down c) lt) in
    let row = tile_span_fits c.y0 c.y1 c.ty c.th (t / tiles_across c) h.high h.offset_down h.some_down h.first_down
    (row_below t (tiles_across c) (tiles_down c) lt) in (
      (tile_span c.x0 c.x1 c.tx c.tw (t % tiles_across c)).low,
      (tile_span c.y0 c.y1 c.ty c.th (t / tiles_across c)).low,
      tile_to c t (tile_span c.x0 c.x1 c.tx c.tw (t % tiles_across c)).low (tile_span c.y0 c.y1 c.ty c.th (t / tiles_across c)).low h
          (tile_corner c t column row),
    )

-- each place of the picture lies in one tile
along : (start end offset size x : ℕ) → 0 < size → offset ≤ start → InSpan (span_of start end) x → (x - offset) / size < tiles_along end offset size
along start end offset size x hs ho i =
    let from : start ≤ x = i.from in
    let below : x < end = i.below in
    let low : (x - offset) / size * size ≤ x - offset = in_cell_low (x - offset) size ((x - offset) / size) hs refl in
    ceil_above (end - offset) size ((x - offset) / size) hs (omega arith)

pub place_in_one_tile : (c : Canvas) (x y : ℕ) → CanvasInRange c → InPicture c x y → ExactlyOne (λ t. (t < tile_count c) × InTile c t x y)
place_in_one_tile c x y h i =
    let column = along c.x0 c.x1 c.tx c.tw x h.wide h.offset_across i.across in
    let row = along c.y0 c.y1 c.ty c.th y h.high h.offset_down i.down in
    let quotient = div-mul-add ((y - c.ty) / c.th) (tiles_across c) ((x - c.tx) / c.tw) column in
    let rest = mod-mul-add ((y - c.ty) / c.th) (tiles_across c) ((x - c.tx) / c.tw) column in
    record {
      number = (y - c.ty) / c.th * tiles_across c + (x - c.tx) / c.tw;
      holds = (
        mul-add-lt ((y - c.ty) / c.th) (tiles_across c) ((x - c.tx) / c.tw) (tiles_down c) row column,
        record { place = i; column = sym rest; row = sym quotient },
      );
      only = λ m p. same_number m ((y - c.ty) / c.th * tiles_across c + (x - c.tx) / c.tw) (tiles_across c)
          (sym p.1.column ∙ sym rest) (sym p.1.row ∙ sym quotient);
    }
