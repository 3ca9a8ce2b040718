-- One direction: which numbers the spans of the standard's formulas hold.
use Rattle.std.proofs.Common.{◌≡◌, ℕ, ◌+◌, ◌-◌, ◌*◌, ◌/◌, ◌%◌, ◌^◌, ◌≤◌, ◌<◌, inl, inr, min, max, refl, arith, ap, ◌∙◌}
use Rattle.std.proofs.Math.Nat.{mul-le-mul_left, pow-le-pow_right, mul-le-mul_right, div-eq_of_lt-le, div-mul-le_self, lt-div-mul-add}
use Rattle.std.proofs.lemmas.Nat.{pow_pos, le-div, div-add-mod'}
use Rattle.std.proofs.lemmas.Bool.Decides.{nat_tests}
use Rattle.std.proofs.lemmas.Bool.{cases_lt}
use Rattle.jx_base.specs.declared.names.Span.{Span}
use Rattle.jx_base.specs.Numbers.{ceil_of}
use Rattle.jx_base.specs.Places.{InSpan}
use Rattle.jx_base.proofs.Ceilings.{ceil_least, ceil_from, below_ceil, ceil_above}
use Rattle.jx_geom.specs.Spans.{tiles_along, tile_span, scaled, band_span, cells, cut, reference_of}

-- a tile that is counted has a place, and lies in the picture
pub record TileSpanFits (start end : ℕ) (s : Span) : Type 0 where
  pub from : start ≤ s.low
  pub some : s.low < s.high
  pub to : s.high ≤ end

pub tile_span_fits : (start end offset size p : ℕ) → 0 < size → offset ≤ start → start < end → start < offset + size
    → p < tiles_along end offset size → TileSpanFits start end (tile_span start end offset size p)
unfolding tile_span
tile_span_fits start end offset size p hs ho hse hf hp =
    let before : p * size < end - offset = below_ceil (end - offset) size p hs hp in
    let next : (p + 1) * size ≡ p * size + size = omega arith in
    record { from = omega arith; some = omega arith; to = omega arith }

-- a place is in a span of every step-th number where what it stands for is in the span
pub scaled_to : (s : Span) (step x : ℕ) → 0 < step → InSpan (scaled s step) x → InSpan s (x * step)
unfolding scaled
scaled_to s step x h i = record { from = ceil_from s.low step x h i.from; below = below_ceil s.high step x h i.below }

pub scaled_from : (s : Span) (step x : ℕ) → 0 < step → InSpan s (x * step) → InSpan (scaled s step) x
unfolding scaled
scaled_from s step x h i = record { from = ceil_least s.low step x h i.from; below = ceil_above s.high step x h i.below }

-- the same of a band
pub band_to : (s : Span) (level off x : ℕ) → InSpan (band_span s level off) x → InSpan s (x * 2 ^ level + off * 2 ^ (level - 1))
unfolding band_span
band_to s level off x i =
    let low : s.low - off * 2 ^ (level - 1) ≤ x * 2 ^ level = ceil_from (s.low - off * 2 ^ (level - 1)) (2 ^ level) x (pow_pos level) i.from in
    let high : x * 2 ^ level < s.high - off * 2 ^ (level - 1) = below_ceil (s.high - off * 2 ^ (level - 1)) (2 ^ level) x (pow_pos level) i.below in
    record { from = omega arith; below = omega arith }

pub band_from : (s : Span) (level off x : ℕ) → InSpan s (x * 2 ^ level + off * 2 ^ (level - 1)) → InSpan (band_span s level off) x
unfolding band_span
band_from s level off x i =
    let from : s.low ≤ x * 2 ^ level + off * 2 ^ (level - 1) = i.from in
    let below : x * 2 ^ level + off * 2 ^ (level - 1) < s.high = i.below in
    let low : s.low - off * 2 ^ (level - 1) ≤ x * 2 ^ level = omega arith in
    let high : x * 2 ^ level < s.high - off * 2 ^ (level - 1) = omega arith in
    record {
      from = ceil_least (s.low - off * 2 ^ (level - 1)) (2 ^ level) x (pow_pos level) low;
      below = ceil_above (s.high - off * 2 ^ (level - 1)) (2 ^ level) x (pow_pos level) high;
    }

pub div_grows : (m n k : ℕ) → 0 < k → m ≤ n → m / k ≤ n / k
div_grows m n k h le =
    let back : m / k * k ≤ n = omega (arith, div-mul-le_self m k) in
    le-div (m / k) n k h back

-- a place lies in the one cell of its quotient
pub in_cell_low : (x size u : ℕ) → 0 < size → x / size ≡ u → u * size ≤ x
in_cell_low x size u h e = rw e at (div-mul-le_self x size)

pub in_cell_high : (x size u : ℕ) → 0 < size → x / size ≡ u → x < (u + 1) * size
in_cell_high x size u h e =
    let high : x < x / size * size + size = lt-div-mul-add h in
    let high' : x < u * size + size = rw e at high in
    omega arith

-- the part of a span in a cell has the span's places with the cell's quotient
pub cut_to : (s : Span) (size n x : ℕ) → 0 < size → InSpan (cut s size n) x → InSpan s x × (x / size ≡ n)
unfolding cut
cut_to s size n x h i =
    let from : max s.low (n * size) ≤ x = i.from in
    let below : x < min s.high ((n + 1) * size) = i.below in
    let low : n * size ≤ x = omega arith in
    let high : x < (n + 1) * size = omega arith in
    (record { from = omega arith; below = omega arith }, div-eq_of_lt-le size low high)

pub cut_from : (s : Span) (size n x : ℕ) → 0 < size → InSpan s x → x / size ≡ n → InSpan (cut s size n) x
unfolding cut
cut_from s size n x h i e =
    let from : s.low ≤ x = i.from in
    let below : x < s.high = i.below in
    let low : n * size ≤ x = in_cell_low x size n h e in
    let high : x < (n + 1) * size = in_cell_high x size n h e in
    record { from = omega arith; below = omega arith }

-- the end of a span's cells
pub cells_high : (s : Span) (size : ℕ) → s.low < s.high → (cells s size).high ≡ ceil_of s.high size
unfolding cells
cells_high s size h = grind (arith, nat_tests)

pub cells_high_none : (s : Span) (size : ℕ) → s.high ≤ s.low → (cells s size).high ≡ s.low / size
unfolding cells
cells_high_none s size h = grind (arith, nat_tests)

pub cells_low : (s : Span) (size : ℕ) → (cells s size).low ≡ s.low / size
unfolding cells
cells_low s size = refl

-- a place's cell is a cell of its span
pub cells_from : (s : Span) (size x : ℕ) → 0 < size → InSpan s x → InSpan (cells s size) (x / size)
cells_from s size x h i =
    let from : s.low ≤ x = i.from in
    let below : x < s.high = i.below in
    let some : s.low < s.high = omega arith in
    let low : s.low / size ≤ x / size = div_grows s.low x size h from in
    let back : x / size * size < s.high = omega (arith, div-mul-le_self x size) in
    let high : x / size < ceil_of s.high size = ceil_above s.high size (x / size) h back in
    record { from = rw (cells_low s size) low; below = rw (cells_high s size some) high }

-- a cell of a span has a place of it: its own first, or the span's
abbrev pub cell_place : Span → ℕ → ℕ → ℕ
cell_place s size u = max s.low (u * size)

cells_to_some : (s : Span) (size u : ℕ) → 0 < size → s.low < s.high → s.low / size ≤ u → u < ceil_of s.high size
    → InSpan s (cell_place s size u) × (cell_place s size u / size ≡ u)
cells_to_some s size u h some from below =
    let high : u * size < s.high = below_ceil s.high size u h below in
    let step : s.low / size * size ≤ u * size = mul-le-mul_right size from in
    let near : s.low < s.low / size * size + size = lt-div-mul-add h in
    let low : u * size ≤ max s.low (u * size) = omega arith in
    let next : max s.low (u * size) < (u + 1) * size = omega arith in
    (record { from = omega arith; below = omega arith }, div-eq_of_lt-le size low next)

pub cells_to_place : (s : Span) (size u : ℕ) → 0 < size → InSpan (cells s size) u → InSpan s (cell_place s size u) × (cell_place s size u / size ≡ u)
cells_to_place s size u h i = elim (cases_lt s.low s.high) [
  | inl some ↦ cells_to_some s size u h some (rw (cells_low s size) at i.from) (rw (cells_high s size some) at i.below)
  | inr none ↦
      let from : s.low / size ≤ u = rw (cells_low s size) at i.from in
      let below : u < s.low / size = rw (cells_high_none s size none) at i.below in
      absurd (omega arith)
]

-- a cell of a span begins below its end
pub cells_times : (s : Span) (size u : ℕ) → 0 < size → InSpan (cells s size) u → u * size < s.high
cells_times s size u h i =
    let place = cells_to_place s size u h i in
    let below : max s.low (u * size) < s.high = place.0.below in
    omega arith

-- also where the cell is halved
pub halved_times : (n e m bound : ℕ) → n * 2 ^ e < bound → n * 2 ^ (e - m) < bound
halved_times n e m bound h =
    let some : 0 < 2 = omega arith in
    let shorter : e - m ≤ e = omega arith in
    let step : n * 2 ^ (e - m) ≤ n * 2 ^ e = mul-le-mul_left n (pow-le-pow_right some shorter) in
    omega arith

-- what the first place of a cell stands for lies before the end
pub scaled_times : (s : Span) (step x : ℕ) → 0 < step → x < (scaled s step).high → x * step < s.high
unfolding scaled
scaled_times s step x h lt = below_ceil s.high step x h lt

pub twice_scaled_times : (s : Span) (first second size u : ℕ) → 0 < first → 0 < second → 0 < size
    → InSpan (cells (scaled (scaled s first) second) size) u → u * size * second * first < s.high
twice_scaled_times s first second size u hf hs hc i =
    scaled_times s first (u * size * second) hf
    (scaled_times (scaled s first) second (u * size) hs (cells_times (scaled (scaled s first) second) size u hc i))

pub grows_by : (a b : ℕ) → 0 < b → a ≤ a * b
grows_by a b h = let step : a * 1 ≤ a * b = mul-le-mul_left a h in omega arith

-- a part in one cell is no longer than the cell
pub cut_length : (s : Span) (size n : ℕ) → (cut s size n).high - (cut s size n).low ≤ size
unfolding cut
cut_length s size n = let next : (n + 1) * size ≡ n * size + size = omega arith in omega arith

-- where a reference point is the tile's start, and where it isn't
reference_early : (start low size step n : ℕ) → n ≡ low / size → 0 < low % size → reference_of start low size step n ≡ start
unfolding reference_of
reference_early start low size step n e some = grind (arith, nat_tests)

reference_late : (start low size step n : ℕ) → (n ≡ low / size → low % size ≡ 0) → reference_of start low size step n ≡ n * (size * step)
unfolding reference_of
reference_late start low size step n h = grind (arith, nat_tests)

first_cell : (low size u : ℕ) → 0 < size → low / size ≤ u → u * size < low → (u ≡ low / size) × (0 < low % size)
first_cell low size u h le lt =
    let back : u * size ≤ low = omega arith in
    let upper : u ≤ low / size = le-div u low size h back in
    let same : u ≡ low / size = omega arith in
    let product : u * size ≡ low / size * size = ap (λ n. n * size) same in
    let whole : low / size * size + low % size ≡ low = div-add-mod' low size in
    (same, omega arith)

later_cell : (low size u : ℕ) → low ≤ u * size → u ≡ low / size → low % size ≡ 0
later_cell low size u le same =
    let product : u * size ≡ low / size * size = ap (λ n. n * size) same in
    let whole : low / size * size + low % size ≡ low = div-add-mod' low size in
    omega arith

scaled_low_to : (s : Span) (step x : ℕ) → 0 < step → (scaled s step).low ≤ x → s.low ≤ x * step
unfolding scaled
scaled_low_to s step x h le = ceil_from s.low step x h le

scaled_low_below : (s : Span) (step x : ℕ) → 0 < step → x < (scaled s step).low → x * step < s.low
unfolding scaled
scaled_low_below s step x h lt = below_ceil s.low step x h lt

-- a precinct stands at the later of the tile's start and of what the first place of its cell stands for
pub reference_latest : (s : Span) (first second size u : ℕ) → 0 < first → 0 < second → 0 < size
    → InSpan (cells (scaled (scaled s first) second) size) u
    → reference_of s.low (scaled (scaled s first) second).low size (second * first) u ≡ max s.low (u * (size * (second * first)))
reference_latest s first second size u hf hs hc i = elim (cases_lt (u * size) (scaled (scaled s first) second).low) [
  | inl lt ↦
      let from : (scaled (scaled s first) second).low / size ≤ u = rw (cells_low (scaled (scaled s first) second) size) at i.from in
      let mine = first_cell (scaled (scaled s first) second).low size u hc from lt in
      let e : reference_of s.low (scaled (scaled s first) second).low size (second * first) u ≡ s.low =
      reference_early s.low (scaled (scaled s first) second).low size (second * first) u mine.0 mine.1 in
      let below : u * size * second * first < s.low = scaled_low_below s first (u * size * second) hf (scaled_low_below (scaled s first) second (u * size) hs lt) in
      let most : s.low ≡ max s.low (u * (size * (second * first))) = omega arith in
      e ∙ most
  | inr ge ↦
      let e : reference_of s.low (scaled (scaled s first) second).low size (second * first) u ≡ u * (size * (second * first)) =
      reference_late s.low (scaled (scaled s first) second).low size (second * first) u (later_cell (scaled (scaled s first) second).low size u ge) in
      let above : s.low ≤ u * size * second * first = scaled_low_to s first (u * size * second) hf (scaled_low_to (scaled s first) second (u * size) hs ge) in
      let most : u * (size * (second * first)) ≡ max s.low (u * (size * (second * first))) = omega arith in
      e ∙ most
]
