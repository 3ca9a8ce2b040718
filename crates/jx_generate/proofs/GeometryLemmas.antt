-- The geometry of a made file is in its ranges, and each resolution of a component has one precinct.
use Rattle.std.proofs.Common.{◌≡◌, ◌∙◌, ℕ, zero, suc, ◌+◌, ◌-◌, ◌*◌, ◌/◌, ◌%◌, ◌^◌, ◌≤◌, ◌<◌, List, [], ◌∷◌, length, max, min, refl, sym, ap, subst, arith, inl, inr, sum_by}
use Rattle.std.specs.Prelude.{slice_index, slice_index_or}
use Rattle.std.proofs.lemmas.Bool.{cases_lt}
use Rattle.std.proofs.lemmas.List.{get_or-replicate}
use Rattle.std.proofs.lemmas.List.Sums.{sum_by-cons}
use Rattle.std.proofs.lemmas.Nat.{mul-le, pow_pos}
use Rattle.jx_base.specs.declared.names.Rect.{Rect}
use Rattle.jx_base.specs.declared.names.Span.{Span}
use Rattle.jx_base.specs.declared.names.Band.{Band}
use Rattle.jx_base.specs.declared.names.Band.TheVariants.{LL, HL, LH, HH}
use Rattle.jx_base.specs.Joined.{sum_below}
use Rattle.jx_base.specs.Numbers.{ceil_of}
use Rattle.jx_base.specs.Places.{length_of, size_of, span_of, rect_of}
use Rattle.jx_base.proofs.Ceilings.{ceil_above, ceil_least, ceil_le_self}
use Rattle.jx_geom.specs.declared.shape.Canvas.{Canvas}
use Rattle.jx_geom.specs.declared.shape.CompShape.{CompShape}
use Rattle.jx_geom.specs.Spans.{tile_span, tiles_along, scaled, band_span, cells}
use Rattle.jx_geom.specs.Rects.{tile_rect, tiles_across, component_rect, resolution_rect, band_rect, band_level, off_across, off_down, block_across, block_down, precinct_cells, block_cells}
use Rattle.jx_geom.specs.Ranges.{CanvasInRange, ShapeInRange, exponent_across, exponent_down}
use Rattle.jx_geom.specs.Geometry.{GeometryInRange, HasResolution, ShapesInRange, WithinLimits, no_shape, precincts_in, rect_of_tile, shape_of}
use Rattle.jx_geom.specs.Precincts.{HasPrecinct}
use Rattle.jx_geom.specs.Counts.{block_count, component_blocks, component_precincts, precinct_count, resolution_blocks, tile_blocks, tile_count, tile_precincts}
use Rattle.jx_geom.proofs.CountLemmas.{resolution_high, resolution_low}
use Rattle.jx_geom.proofs.SpanLemmas.{cells_high, cells_high_none, cells_low}
use Rattle.jx_generate.specs.Headers.{AreSizes, canvas_made, geometry_made, shape_made}

-- ---- the tile
-- one tile along a direction
one_along : (w : ℕ) → 1 ≤ w → tiles_along w 0 w ≡ 1
one_along w some =
    let e : w - 0 ≡ w = omega arith in
    let le : ceil_of (w - 0) w ≤ 1 = ceil_least (w - 0) w 1 some (omega arith) in
    let above : 0 < ceil_of (w - 0) w = ceil_above (w - 0) w 0 some (omega arith) in
    omega arith

span_made : (w p : ℕ) → p ≡ 0 → tile_span 0 w 0 w p ≡ span_of 0 w
unfolding tile_span
span_made w p e =
    let low : max (0 + p * w) 0 ≡ 0 = rw e (omega arith) in
    let high : min (0 + (p + 1) * w) w ≡ w = rw e (omega arith) in
    ap (λ (n : ℕ). span_of n (min (0 + (p + 1) * w) w)) low ∙ ap (span_of 0) high

pub rect_made : (w h : ℕ) → AreSizes w h → tile_rect (canvas_made w h) 0 ≡ rect_of (span_of 0 w) (span_of 0 h)
unfolding tile_rect
rect_made w h sizes =
    let across : 0 % tiles_across (canvas_made w h) ≡ 0 = rw (one_along w sizes.wide) refl in
    let down : 0 / tiles_across (canvas_made w h) ≡ 0 = rw (one_along w sizes.wide) refl in
    ap (λ (s : Span). rect_of s (tile_span 0 h 0 h (0 / tiles_across (canvas_made w h)))) (span_made w (0 % tiles_across (canvas_made w h)) across)
    ∙ ap (rect_of (span_of 0 w)) (span_made h (0 / tiles_across (canvas_made w h)) down)

pub count_one : (w h : ℕ) → AreSizes w h → tile_count (canvas_made w h) ≡ 1
count_one w h sizes = rw (one_along w sizes.wide, one_along h sizes.high) refl

pub one_tile : (w h : ℕ) → AreSizes w h → 0 < tile_count (canvas_made w h)
one_tile w h sizes = omega (arith, count_one w h sizes)

-- ---- spans that begin at 0 and end at 4,096 or before
abbrev pub IsSmall : Span → Type 0
IsSmall s = s.high ≤ 4096

pub record IsWhole (s : Span) : Type 0 where
  pub low : s.low ≡ 0
  pub some : 0 < s.high
  pub small : s.high ≤ 4096

scaled_whole : (s : Span) (step : ℕ) → 0 < step → IsWhole s → IsWhole (scaled s step)
unfolding scaled
scaled_whole s step some is = record {
  low = (let le : ceil_of s.low step ≤ s.low = ceil_le_self s.low step some in omega (arith, is.low));
  some = ceil_above s.high step 0 some (omega (arith, is.some));
  small = (let le : ceil_of s.high step ≤ s.high = ceil_le_self s.high step some in omega (arith, is.small));
}

band_small : (s : Span) (level off : ℕ) → IsSmall s → IsSmall (band_span s level off)
unfolding band_span
band_small s level off small =
    let le : ceil_of (s.high - off * 2 ^ (level - 1)) (2 ^ level) ≤ s.high - off * 2 ^ (level - 1) = ceil_le_self (s.high - off * 2 ^ (level - 1)) (2 ^ level) (pow_pos level) in
    omega arith

-- cells of 64
cells_few : (s : Span) → IsSmall s → length_of (cells s 64) ≤ 64
cells_few s small = elim (cases_lt s.low s.high) [
  | inl some ↦ (let le : ceil_of s.high 64 ≤ 64 = ceil_least s.high 64 64 (omega arith) (omega arith) in omega (arith, cells_high s 64 some))
  | inr none ↦ omega (arith, cells_high_none s 64 none, cells_low s 64)
]

-- and of 32,768
cells_one : (s : Span) → IsWhole s → length_of (cells s 32768) ≡ 1
cells_one s is =
    let le : ceil_of s.high 32768 ≤ 1 = ceil_least s.high 32768 1 (omega arith) (omega (arith, is.small)) in
    let above : 0 < ceil_of s.high 32768 = ceil_above s.high 32768 0 (omega arith) (omega (arith, is.some)) in
    let low : s.low / 32768 ≡ 0 = rw is.low refl in
    omega (arith, cells_high s 32768 (omega (arith, is.low, is.some)), cells_low s 32768)

-- ---- the shape
exponents : (r : ℕ) → r ≤ 5 → slice_index shape_made.precincts r ≡ 255
exponents r le = get_or-replicate 33 r 255 0 (omega arith)

across_15 : (r : ℕ) → r ≤ 5 → exponent_across shape_made r ≡ 15
across_15 r le = ap (λ (n : ℕ). n % 16) (exponents r le)

down_15 : (r : ℕ) → r ≤ 5 → exponent_down shape_made r ≡ 15
down_15 r le = ap (λ (n : ℕ). n / 16) (exponents r le)

pub block_across_6 : (r : ℕ) → r ≤ 5 → block_across shape_made r ≡ 6
block_across_6 r le = omega (arith, across_15 r le)

pub block_down_6 : (r : ℕ) → r ≤ 5 → block_down shape_made r ≡ 6
block_down_6 r le = omega (arith, down_15 r le)

pub shape_in_range : ShapeInRange shape_made
shape_in_range = record {
  numbers = record {
    step_across = omega arith;
    step_down = omega arith;
    levels = omega arith;
    block_across = omega arith;
    block_down = omega arith;
    block_wide = omega arith;
    block_high = omega arith;
    block_size = omega arith;
  };
  precincts = λ r some le. (omega (arith, across_15 r le), omega (arith, down_15 r le));
}

shapes_in_range : ShapesInRange (shape_made ∷ shape_made ∷ shape_made ∷ [])
shapes_in_range zero lt = shape_in_range
shapes_in_range (suc zero) lt = shape_in_range
shapes_in_range (suc (suc zero)) lt = shape_in_range
shapes_in_range (suc (suc (suc c))) lt = absurd (omega arith)

-- ---- how many blocks and precincts
pub record IsWholeRect (t : Rect) : Type 0 where
  pub x : IsWhole t.x
  pub y : IsWhole t.y

pub component_whole : (t : Rect) → IsWholeRect t → IsWholeRect (component_rect t shape_made)
unfolding component_rect
component_whole t is = record { x = scaled_whole t.x 1 (omega arith) is.x; y = scaled_whole t.y 1 (omega arith) is.y }

resolution_whole : (t : Rect) (r : ℕ) → IsWholeRect t → IsWholeRect (resolution_rect t shape_made r)
unfolding resolution_rect
resolution_whole t r is =
    let c : IsWholeRect (component_rect t shape_made) = component_whole t is in
    record { x = scaled_whole (component_rect t shape_made).x (2 ^ (5 - r)) (pow_pos (5 - r)) c.x; y = scaled_whole (component_rect t shape_made).y (2 ^ (5 - r)) (pow_pos (5 - r)) c.y }

blocks_few : (t : Rect) (r : ℕ) (b : Band) → IsWholeRect t → r ≤ 5 → block_count t shape_made r b ≤ 4096
unfolding block_cells band_rect
blocks_few t r b is le =
    let c : IsWholeRect (component_rect t shape_made) = component_whole t is in
    let x : Span = band_span (component_rect t shape_made).x (band_level shape_made r b) (off_across b) in
    let y : Span = band_span (component_rect t shape_made).y (band_level shape_made r b) (off_down b) in
    let wide : length_of (cells x 64) ≤ 64 = cells_few x (band_small (component_rect t shape_made).x (band_level shape_made r b) (off_across b) c.x.small) in
    let high : length_of (cells y 64) ≤ 64 = cells_few y (band_small (component_rect t shape_made).y (band_level shape_made r b) (off_down b) c.y.small) in
    let product : length_of (cells x 64) * length_of (cells y 64) ≤ 64 * 64 = mul-le (length_of (cells x 64)) (length_of (cells y 64)) 64 64 wide high in
    let across : length_of (cells x (2 ^ block_across shape_made r)) ≡ length_of (cells x 64) = ap (λ (n : ℕ). length_of (cells x (2 ^ n))) (block_across_6 r le) in
    let down : length_of (cells y (2 ^ block_down shape_made r)) ≡ length_of (cells y 64) = ap (λ (n : ℕ). length_of (cells y (2 ^ n))) (block_down_6 r le) in
    rw (across, down) (omega arith)

resolution_few : (t : Rect) (r : ℕ) → IsWholeRect t → r ≤ 5 → resolution_blocks t shape_made r ≤ 12288
resolution_few t r is le = elim (cases_lt 0 r) [
  | inl some ↦ omega (arith, resolution_high t shape_made r some, blocks_few t r HL is le, blocks_few t r LH is le, blocks_few t r HH is le)
  | inr none ↦ omega (arith, resolution_low t shape_made r (omega arith), blocks_few t r LL is le)
]

sum_few : (f : ℕ → ℕ) (most n : ℕ) → ((i : ℕ) → i < n → f i ≤ most) → sum_below f n ≤ n * most
sum_few f most zero each = omega arith
sum_few f most (suc n) each =
    let before : sum_below f n ≤ n * most = sum_few f most n (λ i lt. each i (omega arith)) in
    let last : f n ≤ most = each n (omega arith) in
    grind arith

component_few : (t : Rect) → IsWholeRect t → component_blocks t shape_made ≤ 73728
unfolding component_blocks
component_few t is = sum_few (resolution_blocks t shape_made) 12288 6 (λ r lt. resolution_few t r is (omega arith))

pub one_precinct : (t : Rect) (r : ℕ) → IsWholeRect t → r ≤ 5 → precinct_count t shape_made r ≡ 1
unfolding precinct_cells
one_precinct t r is le =
    let q : IsWholeRect (resolution_rect t shape_made r) = resolution_whole t r is in
    let wide : length_of (cells (resolution_rect t shape_made r).x 32768) ≡ 1 = cells_one (resolution_rect t shape_made r).x q.x in
    let high : length_of (cells (resolution_rect t shape_made r).y 32768) ≡ 1 = cells_one (resolution_rect t shape_made r).y q.y in
    let across : length_of (cells (resolution_rect t shape_made r).x (2 ^ exponent_across shape_made r)) ≡ 1 =
    ap (λ (n : ℕ). length_of (cells (resolution_rect t shape_made r).x (2 ^ n))) (across_15 r le) ∙ wide in
    let down : length_of (cells (resolution_rect t shape_made r).y (2 ^ exponent_down shape_made r)) ≡ 1 =
    ap (λ (n : ℕ). length_of (cells (resolution_rect t shape_made r).y (2 ^ n))) (down_15 r le) ∙ high in
    rw (across, down) refl

pub precincts_few : (t : Rect) → IsWholeRect t → component_precincts t shape_made ≤ 6
unfolding component_precincts
precincts_few t is = sum_few (precinct_count t shape_made) 1 6 (λ r lt. omega (arith, one_precinct t r is (omega arith)))

pub whole_made : (w h : ℕ) → AreSizes w h → IsWholeRect (tile_rect (canvas_made w h) 0)
whole_made w h sizes =
    let P : Rect → Type 0 = λ t. IsWholeRect t in
    subst P (sym (rect_made w h sizes)) (record {
      x = record { low = refl; some = sizes.wide; small = sizes.most_wide };
      y = record { low = refl; some = sizes.high; small = sizes.most_high };
    })

abbrev pub shapes_made : List CompShape
shapes_made = shape_made ∷ shape_made ∷ shape_made ∷ []

three_times : (f : CompShape → ℕ) (most : ℕ) → f shape_made ≤ most → sum_by f shapes_made ≤ 3 * most
three_times f most le =
    omega (arith, sum_by-cons f shape_made (shape_made ∷ shape_made ∷ []), sum_by-cons f shape_made (shape_made ∷ []), sum_by-cons f shape_made [])

pub limits_made : (w h : ℕ) → AreSizes w h → WithinLimits (canvas_made w h) 0 shapes_made
limits_made w h sizes =
    let is : IsWholeRect (tile_rect (canvas_made w h) 0) = whole_made w h sizes in
    record {
      blocks = omega (arith, three_times (component_blocks (tile_rect (canvas_made w h) 0)) 73728 (component_few (tile_rect (canvas_made w h) 0) is));
      precincts = omega (arith, three_times (component_precincts (tile_rect (canvas_made w h) 0)) 6 (precincts_few (tile_rect (canvas_made w h) 0) is));
    }

pub precincts_limited : (w h : ℕ) → AreSizes w h → tile_precincts (tile_rect (canvas_made w h) 0) shapes_made ≤ 18
precincts_limited w h sizes = three_times (component_precincts (tile_rect (canvas_made w h) 0)) 6 (precincts_few (tile_rect (canvas_made w h) 0) (whole_made w h sizes))

pub canvas_in_range : (w h : ℕ) → AreSizes w h → CanvasInRange (canvas_made w h)
canvas_in_range w h sizes = record {
  wide = sizes.wide;
  offset_across = omega arith;
  some_across = sizes.wide;
  first_across = omega (arith, sizes.wide);
  high = sizes.high;
  offset_down = omega arith;
  some_down = sizes.high;
  first_down = omega (arith, sizes.high);
}

pub geometry_in_range : (w h : ℕ) → AreSizes w h → GeometryInRange (geometry_made w h)
unfolding geometry_made
geometry_in_range w h sizes = record {
  canvas = canvas_in_range w h sizes;
  tile = one_tile w h sizes;
  few = omega arith;
  shapes = shapes_in_range;
  limits = limits_made w h sizes;
}

-- ---- the precincts that are there
pub shape_at : (c : ℕ) → c < 3 → slice_index_or shapes_made c no_shape ≡ shape_made
shape_at zero lt = refl
shape_at (suc zero) lt = refl
shape_at (suc (suc zero)) lt = refl
shape_at (suc (suc (suc c))) lt = absurd (omega arith)

pub resolution_there : (w h c r : ℕ) → c < 3 → r ≤ 5 → HasResolution (geometry_made w h) c r
unfolding geometry_made
resolution_there w h c r lt le =
    let P : CompShape → Type 0 = λ s. r ≤ s.levels in
    record { component = lt; level = subst P (sym (shape_at c lt)) le }

pub precincts_made : (w h c r : ℕ) → AreSizes w h → c < 3 → r ≤ 5 → size_of (precincts_in (geometry_made w h) c r) ≡ 1
unfolding geometry_made
precincts_made w h c r sizes lt le =
    ap (λ (s : CompShape). precinct_count (tile_rect (canvas_made w h) 0) s r) (shape_at c lt) ∙ one_precinct (tile_rect (canvas_made w h) 0) r (whole_made w h sizes) le

pub precinct_there : (w h c r : ℕ) → AreSizes w h → c < 3 → r ≤ 5 → HasPrecinct (geometry_made w h) c r 0
precinct_there w h c r sizes lt le = record { resolution = resolution_there w h c r lt le; precinct = omega (arith, precincts_made w h c r sizes lt le) }

-- ---- the blocks
pub count_made : (w h n : ℕ) → n ≡ component_blocks (tile_rect (canvas_made w h) 0) shape_made → 3 * n ≡ tile_blocks (rect_of_tile (geometry_made w h)) (geometry_made w h).shapes
unfolding geometry_made
count_made w h n e =
    let f : CompShape → ℕ = component_blocks (tile_rect (canvas_made w h) 0) in
    omega (arith, sum_by-cons f shape_made (shape_made ∷ shape_made ∷ []), sum_by-cons f shape_made (shape_made ∷ []), sum_by-cons f shape_made [])

pub component_limited : (w h n : ℕ) → AreSizes w h → n ≡ component_blocks (tile_rect (canvas_made w h) 0) shape_made → n ≤ 73728
component_limited w h n sizes e = omega (arith, component_few (tile_rect (canvas_made w h) 0) (whole_made w h sizes))

-- the same of values that are these
pub limits_of : (w h : ℕ) (canvas : Canvas) (x y z : CompShape) → AreSizes w h → canvas ≡ canvas_made w h → x ≡ shape_made → y ≡ shape_made → z ≡ shape_made → WithinLimits canvas 0 (x ∷ y ∷ z ∷ [])
limits_of w h canvas x y z sizes e ex ey ez =
    let P : Canvas → CompShape → CompShape → CompShape → Type 0 = λ k a b d. WithinLimits k 0 (a ∷ b ∷ d ∷ []) in
    subst (λ (k : Canvas). P k x y z) (sym e) (subst (λ (a : CompShape). P (canvas_made w h) a y z) (sym ex)
    (subst (λ (b : CompShape). P (canvas_made w h) shape_made b z) (sym ey) (subst (λ (d : CompShape). P (canvas_made w h) shape_made shape_made d) (sym ez) (limits_made w h sizes))))

pub count_is : (w h n : ℕ) (canvas : Canvas) (x : CompShape) → canvas ≡ canvas_made w h → x ≡ shape_made → n ≡ component_blocks (tile_rect canvas 0) x → n ≡ component_blocks (tile_rect (canvas_made w h) 0) shape_made
count_is w h n canvas x e ex is = is ∙ ap (λ (k : Canvas). component_blocks (tile_rect k 0) x) e ∙ ap (component_blocks (tile_rect (canvas_made w h) 0)) ex

pub three_shapes : (w h c : ℕ) → c < length (geometry_made w h).shapes → c < 3
unfolding geometry_made
three_shapes w h c lt = lt

pub level_5 : (w h c r : ℕ) → c < 3 → r ≤ (shape_of (geometry_made w h) c).levels → r ≤ 5
unfolding geometry_made
level_5 w h c r lt le = subst (λ (s : CompShape). r ≤ s.levels) (shape_at c lt) le
