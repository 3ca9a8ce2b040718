-- Each place of a block is scanned.
use Rattle.std.proofs.Common.{◌≡◌, ◌<◌, ◌+◌, ◌-◌, ◌*◌, ◌/◌, ◌%◌, ℕ, min, ap, ◌∙◌, arith}
use Rattle.std.proofs.lemmas.Nat.{div-mul-add, mod-mul-add, div-add-mod'}
use Rattle.std.proofs.Math.Nat.{mul-le-mul_right, mul-le-mul_left}
use Rattle.jx_tier1_specs.specs.Pass.{stripe_rows, scan_column, scan_row}

-- the number of a place
pub record IsScanned (w h x y : ℕ) : Type 0 where
  pub number : ℕ
  pub below : number < w * h
  pub column : scan_column w h number ≡ x
  pub row : scan_row w h number ≡ y

abbrev rows_of : ℕ → ℕ → ℕ
rows_of h y = min 4 (h - y / 4 * 4)

abbrev in_stripe_of : ℕ → ℕ → ℕ → ℕ
in_stripe_of h x y = x * rows_of h y + y % 4

abbrev number_of : ℕ → ℕ → ℕ → ℕ → ℕ
number_of w h x y = y / 4 * (4 * w) + in_stripe_of h x y

row_in_stripe : (h y : ℕ) → y < h → y % 4 < rows_of h y
row_in_stripe h y l = omega arith

in_stripe_few : (w h x y : ℕ) → x < w → y < h → in_stripe_of h x y < w * rows_of h y
in_stripe_few w h x y p q =
    let r : ℕ = rows_of h y in
    let t = row_in_stripe h y q in
    let m = mul-le-mul_right {m = x + 1} {n = w} r (omega arith) in
    omega arith

in_stripe_least : (w h x y : ℕ) → x < w → y < h → in_stripe_of h x y < 4 * w
in_stripe_least w h x y p q =
    let f = in_stripe_few w h x y p q in
    let m = mul-le-mul_left {m = rows_of h y} {n = 4} w (omega arith) in
    omega arith

stripe_is : (w h x y : ℕ) → x < w → y < h → number_of w h x y / (4 * w) ≡ y / 4
stripe_is w h x y p q = div-mul-add (y / 4) (4 * w) (in_stripe_of h x y) (in_stripe_least w h x y p q)

rest_is : (w h x y : ℕ) → x < w → y < h → number_of w h x y % (4 * w) ≡ in_stripe_of h x y
rest_is w h x y p q = mod-mul-add (y / 4) (4 * w) (in_stripe_of h x y) (in_stripe_least w h x y p q)

rows_are : (w h x y : ℕ) → x < w → y < h → stripe_rows w h (number_of w h x y) ≡ rows_of h y
rows_are w h x y p q = ap (λ (s : ℕ). min 4 (h - s * 4)) (stripe_is w h x y p q)

spread : (q w r : ℕ) → w * (q * 4 + r) ≡ q * (4 * w) + w * r
spread q w r = omega arith

below_all : (w h x y : ℕ) → x < w → y < h → number_of w h x y < w * h
below_all w h x y p q =
    let f = in_stripe_few w h x y p q in
    let m = mul-le-mul_left {m = y / 4 * 4 + rows_of h y} {n = h} w (omega arith) in
    let e = spread (y / 4) w (rows_of h y) in
    omega arith

pub scanned_once : (w h x y : ℕ) → x < w → y < h → IsScanned w h x y
unfolding scan_column scan_row
scanned_once w h x y p q =
    let n : ℕ = number_of w h x y in
    let r : ℕ = rows_of h y in
    let t = row_in_stripe h y q in
    let a = rows_are w h x y p q in
    let b = rest_is w h x y p q in
    let c = stripe_is w h x y p q in
    record {
      number = n;
      below = below_all w h x y p q;
      column = ap (λ (z : ℕ). z / stripe_rows w h n) b ∙ (ap (λ (z : ℕ). in_stripe_of h x y / z) a ∙ div-mul-add x r (y % 4) t);
      row = ap (λ (z : ℕ). z * 4 + n % (4 * w) % stripe_rows w h n) c
          ∙ (ap (λ (z : ℕ). y / 4 * 4 + z % stripe_rows w h n) b
          ∙ (ap (λ (z : ℕ). y / 4 * 4 + in_stripe_of h x y % z) a
          ∙ (ap (λ (z : ℕ). y / 4 * 4 + z) (mod-mul-add x r (y % 4) t) ∙ div-add-mod' y 4)));
    }
