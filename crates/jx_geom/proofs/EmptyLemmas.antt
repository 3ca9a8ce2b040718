-- A tile-component that has no place has no precinct and no code-block.
use Rattle.std.proofs.Common.{◌≡◌, ℕ, zero, suc, ◌+◌, ◌-◌, ◌*◌, ◌^◌, ◌≤◌, ◌<◌, ◌⊎◌, inl, inr, arith, refl}
use Rattle.std.proofs.Math.Nat.{one-le-mul}
use Rattle.std.proofs.lemmas.Bool.{cases_eq, cases_lt}
use Rattle.std.proofs.lemmas.Nat.{pow_pos}
use Rattle.jx_base.specs.declared.names.Rect.{Rect}
use Rattle.jx_base.specs.declared.names.Span.{Span}
use Rattle.jx_base.specs.declared.names.Band.{Band}
use Rattle.jx_base.specs.declared.names.Band.TheVariants.{LL, HL, LH, HH}
use Rattle.jx_base.specs.Joined.{sum_below}
use Rattle.jx_base.specs.Places.{length_of, size_of}
use Rattle.jx_base.proofs.Ceilings.{ceil_grows}
use Rattle.jx_geom.specs.declared.shape.CompShape.{CompShape}
use Rattle.jx_geom.specs.Ranges.{exponent_across, exponent_down}
use Rattle.jx_geom.specs.Spans.{scaled, band_span, cells}
use Rattle.jx_geom.specs.Rects.{component_rect, resolution_rect, band_rect, band_level, off_across, off_down, block_across, block_down, precinct_cells, block_cells}
use Rattle.jx_geom.specs.Counts.{precinct_count, block_count, resolution_blocks, component_blocks, component_precincts}
use Rattle.jx_geom.proofs.CountLemmas.{resolution_low, resolution_high}
use Rattle.jx_geom.proofs.SpanLemmas.{cells_high_none, cells_low}

pub zero_left : (a b : ℕ) → a ≡ 0 → a * b ≡ 0
zero_left a b e = rw e (let z : 0 * b ≡ 0 = omega arith in z)

pub zero_right : (a b : ℕ) → b ≡ 0 → a * b ≡ 0
zero_right a b e = rw e (let z : a * 0 ≡ 0 = omega arith in z)

pub zero_factor : (a b : ℕ) → a * b ≡ 0 → (a ≡ 0 → ⊥) → b ≡ 0
zero_factor a b e some = elim (cases_eq b 0) [
  | inl none ↦ none
  | inr other ↦
      let product : 1 ≤ a * b = one-le-mul (omega arith) (omega arith) in
      absurd (omega arith)
]

-- spans that have no number
scaled_none : (s : Span) (step : ℕ) → 0 < step → length_of s ≡ 0 → length_of (scaled s step) ≡ 0
unfolding scaled
scaled_none s step h e = omega (arith, ceil_grows s.high s.low step h (omega arith))

band_none : (s : Span) (level off : ℕ) → length_of s ≡ 0 → length_of (band_span s level off) ≡ 0
unfolding band_span
band_none s level off e =
    omega (arith, ceil_grows (s.high - off * 2 ^ (level - 1)) (s.low - off * 2 ^ (level - 1)) (2 ^ level) (pow_pos level) (omega arith))

cells_none : (s : Span) (size : ℕ) → length_of s ≡ 0 → length_of (cells s size) ≡ 0
cells_none s size e = omega (arith, cells_high_none s size (omega arith), cells_low s size)

-- rects that have none
either_none : (a b : ℕ) → a * b ≡ 0 → (a ≡ 0) ⊎ (b ≡ 0)
either_none a b e = elim (cases_eq a 0) [
  | inl none ↦ inl none
  | inr some ↦ inr (zero_factor a b e some)
]

precincts_none : (tile : Rect) (s : CompShape) (r : ℕ) → size_of (component_rect tile s) ≡ 0 → precinct_count tile s r ≡ 0
unfolding precinct_cells resolution_rect
precincts_none tile s r e = elim (either_none (length_of (component_rect tile s).x) (length_of (component_rect tile s).y) e) [
  | inl across ↦
      zero_left (length_of (precinct_cells tile s r).x) (length_of (precinct_cells tile s r).y)
      (cells_none (resolution_rect tile s r).x (2 ^ exponent_across s r) (scaled_none (component_rect tile s).x (2 ^ (s.levels - r)) (pow_pos (s.levels - r)) across))
  | inr down ↦
      zero_right (length_of (precinct_cells tile s r).x) (length_of (precinct_cells tile s r).y)
      (cells_none (resolution_rect tile s r).y (2 ^ exponent_down s r) (scaled_none (component_rect tile s).y (2 ^ (s.levels - r)) (pow_pos (s.levels - r)) down))
]

blocks_none : (tile : Rect) (s : CompShape) (r : ℕ) (b : Band) → size_of (component_rect tile s) ≡ 0 → block_count tile s r b ≡ 0
unfolding block_cells band_rect
blocks_none tile s r b e = elim (either_none (length_of (component_rect tile s).x) (length_of (component_rect tile s).y) e) [
  | inl across ↦
      zero_left (length_of (block_cells tile s r b).x) (length_of (block_cells tile s r b).y)
      (cells_none (band_rect tile s r b).x (2 ^ block_across s r) (band_none (component_rect tile s).x (band_level s r b) (off_across b) across))
  | inr down ↦
      zero_right (length_of (block_cells tile s r b).x) (length_of (block_cells tile s r b).y)
      (cells_none (band_rect tile s r b).y (2 ^ block_down s r) (band_none (component_rect tile s).y (band_level s r b) (off_down b) down))
]

resolution_none : (tile : Rect) (s : CompShape) (r : ℕ) → size_of (component_rect tile s) ≡ 0 → resolution_blocks tile s r ≡ 0
resolution_none tile s r e = elim (cases_lt 0 r) [
  | inl some ↦ omega (arith, resolution_high tile s r some, blocks_none tile s r HL e, blocks_none tile s r LH e, blocks_none tile s r HH e)
  | inr none ↦ omega (arith, resolution_low tile s r (omega arith), blocks_none tile s r LL e)
]

all_none : (f : ℕ → ℕ) (n : ℕ) → ((i : ℕ) → f i ≡ 0) → sum_below f n ≡ 0
all_none f zero e = refl
all_none f (suc n) e = let before : sum_below f n ≡ 0 = all_none f n e in omega (arith, e n)

pub no_precincts : (tile : Rect) (s : CompShape) → size_of (component_rect tile s) ≡ 0 → component_precincts tile s ≡ 0
unfolding component_precincts
no_precincts tile s e = all_none (precinct_count tile s) (s.levels + 1) (λ r. precincts_none tile s r e)

pub no_blocks : (tile : Rect) (s : CompShape) → size_of (component_rect tile s) ≡ 0 → component_blocks tile s ≡ 0
unfolding component_blocks
no_blocks tile s e = all_none (resolution_blocks tile s) (s.levels + 1) (λ r. resolution_none tile s r e)

-- components with equal factors have a place together
pub same_factors : (tile : Rect) (a b : CompShape) → a.dx ≡ b.dx → a.dy ≡ b.dy → size_of (component_rect tile a) ≡ size_of (component_rect tile b)
unfolding component_rect
same_factors tile a b across down = rw (across, down) refl

-- so a component that has one of them has a place
pub some_precinct : (tile : Rect) (s : CompShape) (r k : ℕ) → k < precinct_count tile s r → 0 < size_of (component_rect tile s)
some_precinct tile s r k lt = elim (cases_lt 0 (size_of (component_rect tile s))) [
  | inl some ↦ some
  | inr none ↦ absurd (omega (arith, precincts_none tile s r (omega arith)))
]

pub some_block : (tile : Rect) (s : CompShape) (r : ℕ) (b : Band) (i : ℕ) → i < block_count tile s r b → 0 < size_of (component_rect tile s)
some_block tile s r b i lt = elim (cases_lt 0 (size_of (component_rect tile s))) [
  | inl some ↦ some
  | inr none ↦ absurd (omega (arith, blocks_none tile s r b (omega arith)))
]
