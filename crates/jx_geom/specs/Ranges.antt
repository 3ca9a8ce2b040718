-- The ranges of a canvas and of a component's shape (ITU-T T.800, Tables A.9, A.15, A.18 and A.21).
use Rattle.std.specs.Prelude.{ℕ, ◌+◌, ◌/◌, ◌%◌, ◌≤◌, ◌<◌, ◌≡◌, slice_index}
use Rattle.jx_base.specs.declared.names.Band.{Band}
use Rattle.jx_base.specs.declared.names.Band.TheVariants.{LL, HL, LH, HH}
use Rattle.jx_geom.specs.declared.shape.Canvas.{Canvas}
use Rattle.jx_geom.specs.declared.shape.CompShape.{CompShape}

-- rule 4 for the canvas: the first tile holds a place of the picture, which has at least one
pub record CanvasInRange (c : Canvas) : Type 0 where
  pub wide : 0 < c.tw
  pub offset_across : c.tx ≤ c.x0
  pub some_across : c.x0 < c.x1
  pub first_across : c.x0 < c.tx + c.tw
  pub high : 0 < c.th
  pub offset_down : c.ty ≤ c.y0
  pub some_down : c.y0 < c.y1
  pub first_down : c.y0 < c.ty + c.th

-- A.6.1, Table A.21: the exponents of a precinct's width and height at a resolution
abbrev pub exponent_across : CompShape → ℕ → ℕ
exponent_across s r = slice_index s.precincts r % 16

abbrev pub exponent_down : CompShape → ℕ → ℕ
exponent_down s r = slice_index s.precincts r / 16

-- rules 4 and 6 for a component
pub record NumbersInRange (s : CompShape) : Type 0 where
  pub step_across : 0 < s.dx
  pub step_down : 0 < s.dy
  pub levels : s.levels ≤ 32
  pub block_across : 2 ≤ s.xcb
  pub block_down : 2 ≤ s.ycb
  pub block_wide : s.xcb ≤ 10
  pub block_high : s.ycb ≤ 10
  pub block_size : s.xcb + s.ycb ≤ 12

-- rule 8: no exponent above resolution 0 is 0
abbrev pub PrecinctsInRange : CompShape → Type 0
PrecinctsInRange s = (r : ℕ) → 0 < r → r ≤ s.levels → (0 < exponent_across s r) × (0 < exponent_down s r)

-- rules 4, 6 and 8 for a component
pub record ShapeInRange (s : CompShape) : Type 0 where
  pub numbers : NumbersInRange s
  pub precincts : PrecinctsInRange s

-- B.5: the bands that a resolution has
abbrev pub HasBand : ℕ → Band → Type 0
HasBand r LL = r ≡ 0
HasBand r HL = 0 < r
HasBand r LH = 0 < r
HasBand r HH = 0 < r
