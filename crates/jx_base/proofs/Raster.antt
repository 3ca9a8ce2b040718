-- The raster order: a number below a rect's size names a place of it, and each place has one number.
use Rattle.std.proofs.Common.{◌≡◌, ℕ, ◌+◌, ◌-◌, ◌*◌, ◌/◌, ◌%◌, ◌≤◌, ◌<◌, inl, inr, arith, ap}
use Rattle.std.proofs.Math.Nat.{mul-le-mul_right}
use Rattle.std.proofs.lemmas.Bool.{cases_lt}
use Rattle.std.proofs.lemmas.Nat.{div_below, div-mul-add, mod-mul-add, div-add-mod', mul-add-lt}
use Rattle.jx_base.specs.declared.names.Rect.{Rect}
use Rattle.jx_base.specs.Places.{InRect, length_of, size_of, column_at, row_at, number_at}

pub factor_some : (n a b : ℕ) → n < a * b → 0 < a
factor_some n a b h = elim (cases_lt 0 a) [
  | inl some ↦ some
  | inr none ↦ let step : a * b ≤ 0 * b = mul-le-mul_right b none in absurd (omega arith)
]

pub row_below : (n wide high : ℕ) → n < wide * high → n / wide < high
row_below n wide high h =
    let turned : n < high * wide = omega arith in
    div_below n wide high (factor_some n wide high h) turned

pub column_below : (n wide high : ℕ) → n < wide * high → n % wide < wide
column_below n wide high h = let some : 0 < wide = factor_some n wide high h in omega arith

-- the place of a number below the size
pub raster_in : (r : Rect) (n : ℕ) → n < size_of r → InRect r (column_at r n) (row_at r n)
raster_in r n h = record {
  across = record { from = omega arith; below = omega (arith, column_below n (length_of r.x) (length_of r.y) h) };
  down = record { from = omega arith; below = omega (arith, row_below n (length_of r.x) (length_of r.y) h) };
}

pub number_below : (r : Rect) (x y : ℕ) → InRect r x y → number_at r x y < size_of r
number_below r x y i =
    let column : x - r.x.low < length_of r.x = omega (arith, i.across.from, i.across.below) in
    let row : y - r.y.low < length_of r.y = omega (arith, i.down.from, i.down.below) in
    mul-add-lt (y - r.y.low) (length_of r.x) (x - r.x.low) (length_of r.y) row column

pub number_column : (r : Rect) (x y : ℕ) → InRect r x y → column_at r (number_at r x y) ≡ x
number_column r x y i =
    let column : x - r.x.low < length_of r.x = omega (arith, i.across.from, i.across.below) in
    let rest : number_at r x y % length_of r.x ≡ x - r.x.low = mod-mul-add (y - r.y.low) (length_of r.x) (x - r.x.low) column in
    omega (arith, i.across.from)

pub number_row : (r : Rect) (x y : ℕ) → InRect r x y → row_at r (number_at r x y) ≡ y
number_row r x y i =
    let column : x - r.x.low < length_of r.x = omega (arith, i.across.from, i.across.below) in
    let quotient : number_at r x y / length_of r.x ≡ y - r.y.low = div-mul-add (y - r.y.low) (length_of r.x) (x - r.x.low) column in
    omega (arith, i.down.from)

-- two numbers of one place are one
pub same_number : (m n w : ℕ) → m % w ≡ n % w → m / w ≡ n / w → m ≡ n
same_number m n w rest quotient =
    let first : m / w * w + m % w ≡ m = div-add-mod' m w in
    let second : n / w * w + n % w ≡ n = div-add-mod' n w in
    let rows : m / w * w ≡ n / w * w = ap (λ q. q * w) quotient in
    omega arith

pub raster_one : (r : Rect) (m n : ℕ) → column_at r m ≡ column_at r n → row_at r m ≡ row_at r n → m ≡ n
raster_one r m n hx hy =
    let rest : m % length_of r.x ≡ n % length_of r.x = omega arith in
    let quotient : m / length_of r.x ≡ n / length_of r.x = omega arith in
    same_number m n (length_of r.x) rest quotient
