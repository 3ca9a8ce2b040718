-- Each place lies in one block, each block in one precinct, and no cell that is counted is empty.
use Rattle.std.proofs.Common.{◌≡◌, ℕ, ◌+◌, ◌-◌, ◌*◌, ◌/◌, ◌^◌, ◌≤◌, ◌<◌, ◌↔◌, ◌∙◌, refl, arith, subst, sym, ap, min}
use Rattle.std.proofs.lemmas.Nat.{pow-add, shr-shr}
use Rattle.jx_base.specs.declared.names.Rect.{Rect}
use Rattle.jx_base.specs.declared.names.Band.{Band}
use Rattle.jx_base.specs.declared.names.Band.TheVariants.{LL, HL, LH, HH}
use Rattle.jx_base.specs.Places.{InRect, ExactlyOne, column_at, row_at, number_at}
use Rattle.jx_geom.specs.declared.shape.CompShape.{CompShape}
use Rattle.jx_geom.specs.Ranges.{ShapeInRange, HasBand, exponent_across, exponent_down}
use Rattle.jx_geom.specs.Rects.{resolution_rect, band_rect, precinct_cells, block_cells, precinct_part, precinct_blocks, off_across, off_down, part_across, part_down, block_across, block_down}
use Rattle.jx_geom.specs.Sets.{InComponent, InResolution, InBand, InCell, InPrecinct, InPart, InBlock, HasPlace}
use Rattle.jx_geom.specs.Counts.{precinct_count, block_count}
use Rattle.jx_geom.proofs.SetLemmas.{resolution_to, resolution_from, band_rect_to, band_rect_from, cell_of_place, place_of_cell, cells_over, precinct_part_to, precinct_part_from}
use Rattle.jx_base.proofs.Raster.{raster_in, number_below, number_column, number_row, raster_one}
use Rattle.jx_base.proofs.Powers.{div_longer}

-- a cell of a rect's cells, where a place of the rect lies in it
cell_from : (places : Rect) (wide high u v x y : ℕ) → InRect places x y → InCell wide high u v x y → InRect (cells_over places wide high) u v
cell_from places wide high u v x y i c =
    let P : ℕ → Type 0 = λ n. InRect (cells_over places wide high) n (y / 2 ^ high) in
    let Q : ℕ → Type 0 = λ n. InRect (cells_over places wide high) u n in
    subst Q c.row (subst P c.column (cell_of_place places wide high x y i))

pub block_cell_to : (tile : Rect) (s : CompShape) (r : ℕ) (b : Band) (u v : ℕ) → ShapeInRange s → InRect (block_cells tile s r b) u v
    → HasPlace (λ x y. InBand tile s r b x y × InCell (block_across s r) (block_down s r) u v x y)
unfolding block_cells
block_cell_to tile s r b u v h i =
    let place = place_of_cell (band_rect tile s r b) (block_across s r) (block_down s r) u v i in
    (place.0, place.1, (band_rect_to tile s r b place.0 place.1 h place.2.0, place.2.1))

pub block_cell_from : (tile : Rect) (s : CompShape) (r : ℕ) (b : Band) (u v x y : ℕ) → ShapeInRange s → InBand tile s r b x y
    → InCell (block_across s r) (block_down s r) u v x y → InRect (block_cells tile s r b) u v
unfolding block_cells
block_cell_from tile s r b u v x y h i c =
    cell_from (band_rect tile s r b) (block_across s r) (block_down s r) u v x y (band_rect_from tile s r b x y h i) c

pub precinct_cell_to : (tile : Rect) (s : CompShape) (r u v : ℕ) → ShapeInRange s → InRect (precinct_cells tile s r) u v
    → HasPlace (λ x y. InResolution tile s r x y × InCell (exponent_across s r) (exponent_down s r) u v x y)
unfolding precinct_cells
precinct_cell_to tile s r u v h i =
    let place = place_of_cell (resolution_rect tile s r) (exponent_across s r) (exponent_down s r) u v i in
    (place.0, place.1, (resolution_to tile s r place.0 place.1 h place.2.0, place.2.1))

pub precinct_cell_from : (tile : Rect) (s : CompShape) (r u v x y : ℕ) → ShapeInRange s → InResolution tile s r x y
    → InCell (exponent_across s r) (exponent_down s r) u v x y → InRect (precinct_cells tile s r) u v
unfolding precinct_cells
precinct_cell_from tile s r u v x y h i c =
    cell_from (resolution_rect tile s r) (exponent_across s r) (exponent_down s r) u v x y (resolution_from tile s r x y h i) c

pub precinct_blocks_to : (tile : Rect) (s : CompShape) (r : ℕ) (b : Band) (k u v : ℕ) → ShapeInRange s → InRect (precinct_blocks tile s r b k) u v
    → HasPlace (λ x y. InPart tile s r b k x y × InCell (block_across s r) (block_down s r) u v x y)
unfolding precinct_blocks
precinct_blocks_to tile s r b k u v h i =
    let place = place_of_cell (precinct_part tile s r b k) (block_across s r) (block_down s r) u v i in
    (place.0, place.1, (precinct_part_to tile s r b k place.0 place.1 h place.2.0, place.2.1))

pub precinct_blocks_from : (tile : Rect) (s : CompShape) (r : ℕ) (b : Band) (k u v x y : ℕ) → ShapeInRange s → InPart tile s r b k x y
    → InCell (block_across s r) (block_down s r) u v x y → InRect (precinct_blocks tile s r b k) u v
unfolding precinct_blocks
precinct_blocks_from tile s r b k u v x y h i c =
    cell_from (precinct_part tile s r b k) (block_across s r) (block_down s r) u v x y (precinct_part_from tile s r b k x y h i) c

-- no block and no precinct that is counted is empty
pub block_some : (tile : Rect) (s : CompShape) (r : ℕ) (b : Band) (i : ℕ) → ShapeInRange s → i < block_count tile s r b → HasPlace (InBlock tile s r b i)
block_some tile s r b i h lt =
    let place = block_cell_to tile s r b (column_at (block_cells tile s r b) i) (row_at (block_cells tile s r b) i) h (raster_in (block_cells tile s r b) i lt) in
    (place.0, place.1, record { place = place.2.0; cell = place.2.1 })

pub precinct_some : (tile : Rect) (s : CompShape) (r k : ℕ) → ShapeInRange s → k < precinct_count tile s r → HasPlace (InPrecinct tile s r k)
precinct_some tile s r k h lt =
    let place = precinct_cell_to tile s r (column_at (precinct_cells tile s r) k) (row_at (precinct_cells tile s r) k) h (raster_in (precinct_cells tile s r) k lt) in
    (place.0, place.1, record { place = place.2.0; cell = place.2.1 })

-- the cell of a number is the cell of a place, where the number is that of the place's cell
cell_of_number : (cells : Rect) (wide high x y : ℕ) → InRect cells (x / 2 ^ wide) (y / 2 ^ high)
    → InCell wide high (column_at cells (number_at cells (x / 2 ^ wide) (y / 2 ^ high))) (row_at cells (number_at cells (x / 2 ^ wide) (y / 2 ^ high))) x y
cell_of_number cells wide high x y i = record {
  column = sym (number_column cells (x / 2 ^ wide) (y / 2 ^ high) i);
  row = sym (number_row cells (x / 2 ^ wide) (y / 2 ^ high) i);
}

-- two numbers whose cells hold one place are one
one_cell : (cells : Rect) (wide high m n x y : ℕ) → InCell wide high (column_at cells m) (row_at cells m) x y
    → InCell wide high (column_at cells n) (row_at cells n) x y → m ≡ n
one_cell cells wide high m n x y p q = raster_one cells m n (sym p.column ∙ q.column) (sym p.row ∙ q.row)

pub place_in_one_block : (tile : Rect) (s : CompShape) (r : ℕ) (b : Band) (x y : ℕ) → ShapeInRange s → InBand tile s r b x y
    → ExactlyOne (λ i. (i < block_count tile s r b) × InBlock tile s r b i x y)
place_in_one_block tile s r b x y h i =
    let cell = block_cell_from tile s r b (x / 2 ^ block_across s r) (y / 2 ^ block_down s r) x y h i (record { column = refl; row = refl }) in
    let mine = cell_of_number (block_cells tile s r b) (block_across s r) (block_down s r) x y cell in
    record {
      number = number_at (block_cells tile s r b) (x / 2 ^ block_across s r) (y / 2 ^ block_down s r);
      holds = (number_below (block_cells tile s r b) (x / 2 ^ block_across s r) (y / 2 ^ block_down s r) cell, record { place = i; cell = mine });
      only = λ m p. one_cell (block_cells tile s r b) (block_across s r) (block_down s r) m
          (number_at (block_cells tile s r b) (x / 2 ^ block_across s r) (y / 2 ^ block_down s r)) x y p.1.cell mine;
    }

pub place_in_one_precinct : (tile : Rect) (s : CompShape) (r x y : ℕ) → ShapeInRange s → InResolution tile s r x y
    → ExactlyOne (λ k. (k < precinct_count tile s r) × InPrecinct tile s r k x y)
place_in_one_precinct tile s r x y h i =
    let cell = precinct_cell_from tile s r (x / 2 ^ exponent_across s r) (y / 2 ^ exponent_down s r) x y h i (record { column = refl; row = refl }) in
    let mine = cell_of_number (precinct_cells tile s r) (exponent_across s r) (exponent_down s r) x y cell in
    record {
      number = number_at (precinct_cells tile s r) (x / 2 ^ exponent_across s r) (y / 2 ^ exponent_down s r);
      holds = (number_below (precinct_cells tile s r) (x / 2 ^ exponent_across s r) (y / 2 ^ exponent_down s r) cell, record { place = i; cell = mine });
      only = λ m p. one_cell (precinct_cells tile s r) (exponent_across s r) (exponent_down s r) m
          (number_at (precinct_cells tile s r) (x / 2 ^ exponent_across s r) (y / 2 ^ exponent_down s r)) x y p.1.cell mine;
    }

pub block_cell_places : (tile : Rect) (s : CompShape) (r : ℕ) (b : Band) (rect : Rect) → ShapeInRange s → rect ≡ block_cells tile s r b → (u v : ℕ)
    → InRect rect u v ↔ HasPlace (λ x y. InBand tile s r b x y × InCell (block_across s r) (block_down s r) u v x y)
block_cell_places tile s r b rect h e u v =
    (λ i. block_cell_to tile s r b u v h (rw e at i), λ p. rw e (block_cell_from tile s r b u v p.0 p.1 h p.2.0 p.2.1))

pub precinct_block_places : (tile : Rect) (s : CompShape) (r : ℕ) (b : Band) (k : ℕ) (rect : Rect) → ShapeInRange s → rect ≡ precinct_blocks tile s r b k
    → (u v : ℕ) → InRect rect u v ↔ HasPlace (λ x y. InPart tile s r b k x y × InCell (block_across s r) (block_down s r) u v x y)
precinct_block_places tile s r b k rect h e u v =
    (λ i. precinct_blocks_to tile s r b k u v h (rw e at i), λ p. rw e (precinct_blocks_from tile s r b k u v p.0 p.1 h p.2.0 p.2.1))

-- where a place of a band above resolution 0 lies in its resolution
half_place : (d x o : ℕ) → x * 2 ^ (d + 1) + o * 2 ^ (d + 1 - 1) ≡ (2 * x + o) * 2 ^ d
half_place d x o =
    let twice : 2 ^ (d + 1) ≡ 2 ^ d * 2 ^ 1 = pow-add 2 d 1 in
    let less : d + 1 - 1 ≡ d = omega arith in
    rw (twice, less) (omega arith)

half_cell : (e x o : ℕ) → 0 < e → o ≤ 1 → (2 * x + o) / 2 ^ e ≡ x / 2 ^ (e - 1)
half_cell e x o some off =
    let halves : (2 * x + o) / 2 ^ 1 / 2 ^ (e - 1) ≡ (2 * x + o) / 2 ^ (1 + (e - 1)) = shr-shr (2 * x + o) 1 (e - 1) in
    let whole : 1 + (e - 1) ≡ e = omega arith in
    let halves' : (2 * x + o) / 2 ^ 1 / 2 ^ (e - 1) ≡ (2 * x + o) / 2 ^ e = rw whole at halves in
    let half : (2 * x + o) / 2 ^ 1 ≡ x = omega arith in
    sym halves' ∙ ap (λ n. n / 2 ^ (e - 1)) half

-- the precinct cell of a place of a band is one of its resolution's
high_cell : (tile : Rect) (s : CompShape) (r right low x y : ℕ) → ShapeInRange s → 0 < r → r ≤ s.levels → right ≤ 1 → low ≤ 1
    → InComponent tile s (x * 2 ^ (s.levels - r + 1) + right * 2 ^ (s.levels - r + 1 - 1)) (y * 2 ^ (s.levels - r + 1) + low * 2 ^ (s.levels - r + 1 - 1))
    → InRect (precinct_cells tile s r) (x / 2 ^ part_across s r) (y / 2 ^ part_down s r)
high_cell tile s r right low x y h some le hr hl i =
    let one : min r 1 ≡ 1 = omega arith in
    let place : InResolution tile s r (2 * x + right) (2 * y + low) = rw (half_place (s.levels - r) x right, half_place (s.levels - r) y low) at i in
    precinct_cell_from tile s r (x / 2 ^ part_across s r) (y / 2 ^ part_down s r) (2 * x + right) (2 * y + low) h place
    (record {
      column = rw one (half_cell (exponent_across s r) x right (h.precincts r some le).0 hr);
      row = rw one (half_cell (exponent_down s r) y low (h.precincts r some le).1 hl);
    })

low_place : (l x : ℕ) → x * 2 ^ l + 0 * 2 ^ (l - 1) ≡ x * 2 ^ (l - 0)
low_place l x = let whole : l - 0 ≡ l = omega arith in rw whole (omega arith)

low_cell : (tile : Rect) (s : CompShape) (x y : ℕ) → ShapeInRange s
    → InBand tile s 0 LL x y → InRect (precinct_cells tile s 0) (x / 2 ^ part_across s 0) (y / 2 ^ part_down s 0)
low_cell tile s x y h i =
    let place : InResolution tile s 0 x y = rw (low_place s.levels x, low_place s.levels y) at i in
    let across : exponent_across s 0 ≡ part_across s 0 = omega arith in
    let down : exponent_down s 0 ≡ part_down s 0 = omega arith in
    precinct_cell_from tile s 0 (x / 2 ^ part_across s 0) (y / 2 ^ part_down s 0) x y h place
    (record { column = ap (λ n. x / 2 ^ n) across; row = ap (λ n. y / 2 ^ n) down })

pub part_cell : (tile : Rect) (s : CompShape) (r : ℕ) (b : Band) (x y : ℕ) → ShapeInRange s → r ≤ s.levels → HasBand r b
    → InBand tile s r b x y → InRect (precinct_cells tile s r) (x / 2 ^ part_across s r) (y / 2 ^ part_down s r)
part_cell tile s r LL x y h le there i =
    let P : ℕ → Type 0 = λ n. InBand tile s n LL x y → InRect (precinct_cells tile s n) (x / 2 ^ part_across s n) (y / 2 ^ part_down s n) in
    subst P (sym there) (low_cell tile s x y h) i
part_cell tile s r HL x y h le there i = high_cell tile s r 1 0 x y h there le (omega arith) (omega arith) i
part_cell tile s r LH x y h le there i = high_cell tile s r 0 1 x y h there le (omega arith) (omega arith) i
part_cell tile s r HH x y h le there i = high_cell tile s r 1 1 x y h there le (omega arith) (omega arith) i

pub in_part_cell : (s : CompShape) (r u v m n x y : ℕ) → InCell (block_across s r) (block_down s r) u v x y
    → InCell (part_across s r) (part_down s r) m n x y
    → (m ≡ u / 2 ^ (part_across s r - block_across s r)) × (n ≡ v / 2 ^ (part_down s r - block_down s r))
in_part_cell s r u v m n x y fine coarse =
    let across : block_across s r ≤ part_across s r = omega arith in
    let down : block_down s r ≤ part_down s r = omega arith in (
      sym coarse.column ∙ div_longer x (block_across s r) (part_across s r) across ∙ ap (λ q. q / 2 ^ (part_across s r - block_across s r)) fine.column,
      sym coarse.row ∙ div_longer y (block_down s r) (part_down s r) down ∙ ap (λ q. q / 2 ^ (part_down s r - block_down s r)) fine.row,
    )

-- the precincts whose part has a place of one block's cell are one
one_part : (tile : Rect) (s : CompShape) (r k m u v x y z w : ℕ) → InCell (block_across s r) (block_down s r) u v x y
    → InCell (block_across s r) (block_down s r) u v z w
    → InCell (part_across s r) (part_down s r) (column_at (precinct_cells tile s r) k) (row_at (precinct_cells tile s r) k) x y
    → InCell (part_across s r) (part_down s r) (column_at (precinct_cells tile s r) m) (row_at (precinct_cells tile s r) m) z w
    → m ≡ k
one_part tile s r k m u v x y z w fine fine' coarse coarse' =
    let mine = in_part_cell s r u v (column_at (precinct_cells tile s r) k) (row_at (precinct_cells tile s r) k) x y fine coarse in
    let other = in_part_cell s r u v (column_at (precinct_cells tile s r) m) (row_at (precinct_cells tile s r) m) z w fine' coarse' in
    raster_one (precinct_cells tile s r) m k (other.0 ∙ sym mine.0) (other.1 ∙ sym mine.1)

-- each place of a band lies in one precinct
pub place_in_one_part : (tile : Rect) (s : CompShape) (r : ℕ) (b : Band) (x y : ℕ) → ShapeInRange s → r ≤ s.levels → HasBand r b
    → InBand tile s r b x y → ExactlyOne (λ k. (k < precinct_count tile s r) × InPart tile s r b k x y)
place_in_one_part tile s r b x y h le there i =
    let cell = part_cell tile s r b x y h le there i in
    let mine = cell_of_number (precinct_cells tile s r) (part_across s r) (part_down s r) x y cell in
    record {
      number = number_at (precinct_cells tile s r) (x / 2 ^ part_across s r) (y / 2 ^ part_down s r);
      holds = (number_below (precinct_cells tile s r) (x / 2 ^ part_across s r) (y / 2 ^ part_down s r) cell, record { place = i; cell = mine });
      only = λ m p. one_cell (precinct_cells tile s r) (part_across s r) (part_down s r) m
          (number_at (precinct_cells tile s r) (x / 2 ^ part_across s r) (y / 2 ^ part_down s r)) x y p.1.cell mine;
    }

-- each block of a band lies in one precinct
pub block_in_one_precinct : (tile : Rect) (s : CompShape) (r : ℕ) (b : Band) (i : ℕ) → ShapeInRange s → r ≤ s.levels → HasBand r b
    → i < block_count tile s r b
    → ExactlyOne (λ k. (k < precinct_count tile s r) × InRect (precinct_blocks tile s r b k) (column_at (block_cells tile s r b) i) (row_at (block_cells tile s r b) i))
block_in_one_precinct tile s r b i h le there lt =
    let some = block_some tile s r b i h lt in
    let home = place_in_one_part tile s r b some.0 some.1 h le there some.2.place in
    record {
      number = home.number;
      holds = (
        home.holds.0,
        precinct_blocks_from tile s r b home.number (column_at (block_cells tile s r b) i) (row_at (block_cells tile s r b) i)
            some.0 some.1 h home.holds.1 some.2.cell,
      );
      only = λ m p.
          let other = precinct_blocks_to tile s r b m (column_at (block_cells tile s r b) i) (row_at (block_cells tile s r b) i) h p.1 in
          one_part tile s r home.number m (column_at (block_cells tile s r b) i) (row_at (block_cells tile s r b) i)
          some.0 some.1 other.0 other.1 some.2.cell other.2.1 home.holds.1.cell other.2.0.cell;
    }

-- whose places are all in it
pub block_within_precinct : (tile : Rect) (s : CompShape) (r : ℕ) (b : Band) (i k x y : ℕ) → ShapeInRange s
    → InRect (precinct_blocks tile s r b k) (column_at (block_cells tile s r b) i) (row_at (block_cells tile s r b) i)
    → InBlock tile s r b i x y → InPart tile s r b k x y
block_within_precinct tile s r b i k x y h there p =
    let some = precinct_blocks_to tile s r b k (column_at (block_cells tile s r b) i) (row_at (block_cells tile s r b) i) h there in
    let mine = in_part_cell s r (column_at (block_cells tile s r b) i) (row_at (block_cells tile s r b) i)
    (column_at (precinct_cells tile s r) k) (row_at (precinct_cells tile s r) k) some.0 some.1 some.2.1 some.2.0.cell in
    let here = in_part_cell s r (column_at (block_cells tile s r b) i) (row_at (block_cells tile s r b) i)
    (x / 2 ^ part_across s r) (y / 2 ^ part_down s r) x y p.cell (record { column = refl; row = refl }) in
    record { place = p.place; cell = record { column = here.0 ∙ sym mine.0; row = here.1 ∙ sym mine.1 } }

-- a place of a band is in a precinct where the place of the resolution that it stands beside is
high_part_to : (tile : Rect) (s : CompShape) (r right low k x y : ℕ) → ShapeInRange s → 0 < r → r ≤ s.levels → right ≤ 1 → low ≤ 1
    → InComponent tile s (x * 2 ^ (s.levels - r + 1) + right * 2 ^ (s.levels - r + 1 - 1)) (y * 2 ^ (s.levels - r + 1) + low * 2 ^ (s.levels - r + 1 - 1))
    → InCell (part_across s r) (part_down s r) (column_at (precinct_cells tile s r) k) (row_at (precinct_cells tile s r) k) x y
    → InPrecinct tile s r k (2 * x + right) (2 * y + low)
high_part_to tile s r right low k x y h some le hr hl i c =
    let one : min r 1 ≡ 1 = omega arith in
    let column : x / 2 ^ (exponent_across s r - 1) ≡ column_at (precinct_cells tile s r) k = rw one at c.column in
    let row : y / 2 ^ (exponent_down s r - 1) ≡ row_at (precinct_cells tile s r) k = rw one at c.row in
    record {
      place = rw (half_place (s.levels - r) x right, half_place (s.levels - r) y low) at i;
      cell = record {
        column = half_cell (exponent_across s r) x right (h.precincts r some le).0 hr ∙ column;
        row = half_cell (exponent_down s r) y low (h.precincts r some le).1 hl ∙ row;
      };
    }

high_part_from : (tile : Rect) (s : CompShape) (r right low k x y : ℕ) → ShapeInRange s → 0 < r → r ≤ s.levels → right ≤ 1 → low ≤ 1
    → InPrecinct tile s r k (2 * x + right) (2 * y + low)
    → InComponent tile s (x * 2 ^ (s.levels - r + 1) + right * 2 ^ (s.levels - r + 1 - 1)) (y * 2 ^ (s.levels - r + 1) + low * 2 ^ (s.levels - r + 1 - 1))
    × InCell (part_across s r) (part_down s r) (column_at (precinct_cells tile s r) k) (row_at (precinct_cells tile s r) k) x y
high_part_from tile s r right low k x y h some le hr hl p =
    let one : 1 ≡ min r 1 = omega arith in
    let column : x / 2 ^ (exponent_across s r - 1) ≡ column_at (precinct_cells tile s r) k =
    sym (half_cell (exponent_across s r) x right (h.precincts r some le).0 hr) ∙ p.cell.column in
    let row : y / 2 ^ (exponent_down s r - 1) ≡ row_at (precinct_cells tile s r) k =
    sym (half_cell (exponent_down s r) y low (h.precincts r some le).1 hl) ∙ p.cell.row in
    let P : ℕ → Type 0 = λ n. x / 2 ^ (exponent_across s r - n) ≡ column_at (precinct_cells tile s r) k in
    let Q : ℕ → Type 0 = λ n. y / 2 ^ (exponent_down s r - n) ≡ row_at (precinct_cells tile s r) k in (
      rw (half_place (s.levels - r) x right, half_place (s.levels - r) y low) p.place,
      record { column = subst P one column; row = subst Q one row },
    )

pub part_stands_beside : (tile : Rect) (s : CompShape) (r : ℕ) (b : Band) (k x y : ℕ) → ShapeInRange s → 0 < r → r ≤ s.levels → HasBand r b
    → InPart tile s r b k x y ↔ InPrecinct tile s r k (2 * x + off_across b) (2 * y + off_down b)
part_stands_beside tile s r LL k x y h some le there = absurd (omega arith)
part_stands_beside tile s r HL k x y h some le there = (
  λ p. high_part_to tile s r 1 0 k x y h some le (omega arith) (omega arith) p.place p.cell,
  λ p. let q = high_part_from tile s r 1 0 k x y h some le (omega arith) (omega arith) p in record { place = q.0; cell = q.1 },
)
part_stands_beside tile s r LH k x y h some le there = (
  λ p. high_part_to tile s r 0 1 k x y h some le (omega arith) (omega arith) p.place p.cell,
  λ p. let q = high_part_from tile s r 0 1 k x y h some le (omega arith) (omega arith) p in record { place = q.0; cell = q.1 },
)
part_stands_beside tile s r HH k x y h some le there = (
  λ p. high_part_to tile s r 1 1 k x y h some le (omega arith) (omega arith) p.place p.cell,
  λ p. let q = high_part_from tile s r 1 1 k x y h some le (omega arith) (omega arith) p in record { place = q.0; cell = q.1 },
)
