-- A component with a factor of 2 ^ d more and d levels fewer has the bands, precincts and code-blocks that it had, at each resolution that is
-- left.
use Rattle.std.proofs.Common.{◌≡◌, ℕ, ◌+◌, ◌-◌, ◌*◌, ◌^◌, ◌≤◌, ◌<◌, ◌⊎◌, inl, inr, ◌∙◌, ap, sym, refl, arith, slice_index}
use Rattle.std.proofs.Math.Nat.{mul_assoc, mul_comm}
use Rattle.std.proofs.lemmas.Nat.{pow-add, pow_pos}
use Rattle.jx_base.specs.declared.names.Rect.{Rect}
use Rattle.jx_base.specs.declared.names.Span.{Span}
use Rattle.jx_base.specs.declared.names.Band.{Band}
use Rattle.jx_base.specs.declared.names.Band.TheVariants.{LL, HL, LH, HH}
use Rattle.jx_base.specs.Places.{rect_of}
use Rattle.jx_geom.specs.declared.shape.CompShape.{CompShape}
use Rattle.jx_geom.specs.Ranges.{exponent_across, exponent_down}
use Rattle.jx_geom.specs.Spans.{scaled, band_span}
use Rattle.jx_geom.specs.Counts.{block_count, precinct_count}
use Rattle.jx_geom.specs.Rects.{component_rect, resolution_rect, off_across, off_down, band_level, band_rect, precinct_cells, part_across, part_down, block_across, block_down, block_cells, precinct_part, precinct_blocks, block_rect, precinct_column_point, precinct_row_point}
use Rattle.jx_reduce.proofs.SpanLemmas.{scaled_twice, band_scaled}

-- t is s without its d highest resolutions
pub record IsLower (d : ℕ) (s t : CompShape) : Type 0 where
  pub some_across : 0 < s.dx
  pub some_down : 0 < s.dy
  pub across : t.dx ≡ s.dx * 2 ^ d
  pub down : t.dy ≡ s.dy * 2 ^ d
  pub levels : s.levels ≡ t.levels + d
  pub xcb : t.xcb ≡ s.xcb
  pub ycb : t.ycb ≡ s.ycb
  pub precincts : (r : ℕ) → r ≤ t.levels → slice_index t.precincts r ≡ slice_index s.precincts r

rects_same : (a b c d : Span) → a ≡ c → b ≡ d → rect_of a b ≡ rect_of c d
rects_same a b c d e h = rw (e, h) refl

-- one band's level in both
level_low : (d : ℕ) (s t : CompShape) (r : ℕ) (b : Band) → IsLower d s t → r ≤ t.levels → band_level t r b + d ≡ band_level s r b
level_low d s t r LL h le = sym h.levels
level_low d s t r HL h le = omega (arith, h.levels)
level_low d s t r LH h le = omega (arith, h.levels)
level_low d s t r HH h le = omega (arith, h.levels)

some_across : (t : CompShape) (r : ℕ) (b : Band) → (off_across b ≡ 0) ⊎ (1 ≤ band_level t r b)
some_across t r LL = inl refl
some_across t r HL = inr (omega arith)
some_across t r LH = inl refl
some_across t r HH = inr (omega arith)

some_down : (t : CompShape) (r : ℕ) (b : Band) → (off_down b ≡ 0) ⊎ (1 ≤ band_level t r b)
some_down t r LL = inl refl
some_down t r HL = inl refl
some_down t r LH = inr (omega arith)
some_down t r HH = inr (omega arith)

-- the step of a resolution
step_low : (d x y m n : ℕ) → y ≡ x * 2 ^ d → m ≡ n + d → y * 2 ^ n ≡ x * 2 ^ m
step_low d x y m n e h =
    let order : d + n ≡ m = omega arith in
    ap (λ (k : ℕ). k * 2 ^ n) e ∙ mul_assoc x (2 ^ d) (2 ^ n) ∙ ap (λ (k : ℕ). x * k) (sym (pow-add 2 d n)) ∙ ap (λ (k : ℕ). x * 2 ^ k) order

some_times : (x d : ℕ) → 0 < x → 0 < x * 2 ^ d
some_times x d h = let k : 0 < 2 ^ d = pow_pos d in grind arith

module _ (d : ℕ) (tile : Rect) (s t : CompShape) (h : IsLower d s t) where
  low_across : (component_rect tile t).x ≡ scaled (component_rect tile s).x (2 ^ d)
  unfolding component_rect
  low_across = ap (λ (n : ℕ). scaled tile.x n) h.across ∙ sym (scaled_twice tile.x s.dx (2 ^ d) h.some_across (pow_pos d))

  low_down : (component_rect tile t).y ≡ scaled (component_rect tile s).y (2 ^ d)
  unfolding component_rect
  low_down = ap (λ (n : ℕ). scaled tile.y n) h.down ∙ sym (scaled_twice tile.y s.dy (2 ^ d) h.some_down (pow_pos d))

  -- spans of one resolution
  side_low : (span : Span) (x y m n : ℕ) → 0 < x → y ≡ x * 2 ^ d → m ≡ n + d → scaled (scaled span y) (2 ^ n) ≡ scaled (scaled span x) (2 ^ m)
  side_low span x y m n some e k =
      let more : 0 < x * 2 ^ d = some_times x d some in
      scaled_twice span y (2 ^ n) (omega arith) (pow_pos n) ∙ ap (λ (i : ℕ). scaled span i) (step_low d x y m n e k) ∙ sym (scaled_twice span x (2 ^ m) some (pow_pos m))

  pub low_resolution : (r : ℕ) → r ≤ t.levels → resolution_rect tile t r ≡ resolution_rect tile s r
  unfolding resolution_rect component_rect
  low_resolution r le =
      let e : s.levels - r ≡ t.levels - r + d = omega (arith, h.levels) in
      rects_same _ _ _ _ (side_low tile.x s.dx t.dx (s.levels - r) (t.levels - r) h.some_across h.across e) (side_low tile.y s.dy t.dy (s.levels - r) (t.levels - r) h.some_down h.down e)

  pub low_band : (r : ℕ) (b : Band) → r ≤ t.levels → band_rect tile t r b ≡ band_rect tile s r b
  unfolding band_rect
  low_band r b le =
      let level : band_level t r b + d ≡ band_level s r b = level_low d s t r b h le in
      rects_same _ _ _ _
      (ap (λ (x : Span). band_span x (band_level t r b) (off_across b)) low_across ∙ band_scaled (component_rect tile s).x d (band_level t r b) (off_across b) (some_across t r b)
      ∙ ap (λ (n : ℕ). band_span (component_rect tile s).x n (off_across b)) level)
      (ap (λ (x : Span). band_span x (band_level t r b) (off_down b)) low_down ∙ band_scaled (component_rect tile s).y d (band_level t r b) (off_down b) (some_down t r b)
      ∙ ap (λ (n : ℕ). band_span (component_rect tile s).y n (off_down b)) level)

  low_precinct_across : (r : ℕ) → r ≤ t.levels → exponent_across t r ≡ exponent_across s r
  low_precinct_across r le = rw (h.precincts r le) refl

  low_precinct_down : (r : ℕ) → r ≤ t.levels → exponent_down t r ≡ exponent_down s r
  low_precinct_down r le = rw (h.precincts r le) refl

  low_part_across : (r : ℕ) → r ≤ t.levels → part_across t r ≡ part_across s r
  low_part_across r le = rw (h.precincts r le) refl

  low_part_down : (r : ℕ) → r ≤ t.levels → part_down t r ≡ part_down s r
  low_part_down r le = rw (h.precincts r le) refl

  low_block_across : (r : ℕ) → r ≤ t.levels → block_across t r ≡ block_across s r
  low_block_across r le = rw (h.xcb, h.precincts r le) refl

  low_block_down : (r : ℕ) → r ≤ t.levels → block_down t r ≡ block_down s r
  low_block_down r le = rw (h.ycb, h.precincts r le) refl

  pub low_precincts : (r : ℕ) → r ≤ t.levels → precinct_cells tile t r ≡ precinct_cells tile s r
  unfolding precinct_cells
  low_precincts r le = rw (low_resolution r le, low_precinct_across r le, low_precinct_down r le) refl

  pub low_blocks : (r : ℕ) (b : Band) → r ≤ t.levels → block_cells tile t r b ≡ block_cells tile s r b
  unfolding block_cells
  low_blocks r b le = rw (low_band r b le, low_block_across r le, low_block_down r le) refl

  pub low_part : (r : ℕ) (b : Band) (k : ℕ) → r ≤ t.levels → precinct_part tile t r b k ≡ precinct_part tile s r b k
  unfolding precinct_part
  low_part r b k le = rw (low_band r b le, low_precincts r le, low_part_across r le, low_part_down r le) refl

  pub low_leaves : (r : ℕ) (b : Band) (k : ℕ) → r ≤ t.levels → precinct_blocks tile t r b k ≡ precinct_blocks tile s r b k
  unfolding precinct_blocks
  low_leaves r b k le = rw (low_part r b k le, low_block_across r le, low_block_down r le) refl

  pub low_rect : (r : ℕ) (b : Band) (i : ℕ) → r ≤ t.levels → block_rect tile t r b i ≡ block_rect tile s r b i
  unfolding block_rect
  low_rect r b i le = rw (low_band r b le, low_blocks r b le, low_block_across r le, low_block_down r le) refl

  turned_step : (x y m n : ℕ) → y ≡ x * 2 ^ d → m ≡ n + d → 2 ^ n * y ≡ 2 ^ m * x
  turned_step x y m n e k = mul_comm (2 ^ n) y ∙ step_low d x y m n e k ∙ mul_comm x (2 ^ m)

  pub low_column : (r n : ℕ) → r ≤ t.levels → precinct_column_point tile t r n ≡ precinct_column_point tile s r n
  unfolding precinct_column_point
  low_column r n le =
      let e : s.levels - r ≡ t.levels - r + d = omega (arith, h.levels) in
      rw (low_resolution r le, low_precinct_across r le, turned_step s.dx t.dx (s.levels - r) (t.levels - r) h.across e) refl

  pub low_row : (r n : ℕ) → r ≤ t.levels → precinct_row_point tile t r n ≡ precinct_row_point tile s r n
  unfolding precinct_row_point
  low_row r n le =
      let e : s.levels - r ≡ t.levels - r + d = omega (arith, h.levels) in
      rw (low_resolution r le, low_precinct_down r le, turned_step s.dy t.dy (s.levels - r) (t.levels - r) h.down e) refl

  pub low_block_count : (r : ℕ) (b : Band) → r ≤ t.levels → block_count tile t r b ≡ block_count tile s r b
  low_block_count r b le = rw (low_blocks r b le) refl

  pub low_precinct_count : (r : ℕ) → r ≤ t.levels → precinct_count tile t r ≡ precinct_count tile s r
  low_precinct_count r le = rw (low_precincts r le) refl
