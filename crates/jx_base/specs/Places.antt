-- Spans and rects as sets, and the raster order of the places of a rect.
use Rattle.std.specs.Prelude.{ℕ, ◌+◌, ◌-◌, ◌*◌, ◌/◌, ◌%◌, ◌≤◌, ◌<◌, ◌≡◌}
use Rattle.jx_base.specs.declared.names.Span.{Span}
use Rattle.jx_base.specs.declared.names.Rect.{Rect}

-- n is in the span
pub record InSpan (s : Span) (n : ℕ) : Type 0 where
  pub from : s.low ≤ n
  pub below : n < s.high

-- the place (x, y) is in the rect
pub record InRect (r : Rect) (x y : ℕ) : Type 0 where
  pub across : InSpan r.x x
  pub down : InSpan r.y y

abbrev pub span_of : ℕ → ℕ → Span
span_of low high = record { low = low; high = high }

abbrev pub rect_of : Span → Span → Rect
rect_of x y = record { x = x; y = y }

-- how many numbers a span has
abbrev pub length_of : Span → ℕ
length_of s = s.high - s.low

-- how many places a rect has
abbrev pub size_of : Rect → ℕ
size_of r = length_of r.x * length_of r.y

-- the column and the row of the place of a number, counted row by row from above, each from the left
abbrev pub column_at : Rect → ℕ → ℕ
column_at r n = r.x.low + n % length_of r.x

abbrev pub row_at : Rect → ℕ → ℕ
row_at r n = r.y.low + n / length_of r.x

-- and back: the number of the place of a column and a row
abbrev pub number_at : Rect → ℕ → ℕ → ℕ
number_at r x y = (y - r.y.low) * length_of r.x + (x - r.x.low)

-- exactly one number has the property
pub record ExactlyOne (P : ℕ → Type 0) : Type 0 where
  pub number : ℕ
  pub holds : P number
  pub only : (m : ℕ) → P m → m ≡ number
