-- The places of the scan.
use Rattle.std.proofs.Common.{◌≡◌, ◌<◌, ◌+◌, ◌-◌, ◌*◌, ◌/◌, ◌%◌, ℕ, arith, min, inl, inr, subst}
use Rattle.std.proofs.lemmas.Nat.{div-add-mod'}
use Rattle.std.proofs.lemmas.Bool.{cases_lt}
use Rattle.std.proofs.Math.Nat.{mod-lt, div-lt_iff_lt-mul, mul-le-mul_right}
use Rattle.jx_tier1_specs.specs.Pass.{stripe_rows, scan_column, scan_row}
use Rattle.jx_base.proofs.Raster.{factor_some}

-- the stripe of a place has a row
pub in_stripe : (w h n : ℕ) → n < w * h → n / (4 * w) * 4 < h
in_stripe w h n l =
    let s : ℕ = n / (4 * w) in
    let e = div-add-mod' n (4 * w) in
    elim (cases_lt (s * 4) h) [ inl m ↦ m | inr m ↦ (let p = mul-le-mul_right w m in absurd (omega arith)) ]

short : (w s a i n : ℕ) → s * (4 * w) + i ≡ n → n < w * (s * 4 + a) → i < w * a
short w s a i n e l = omega arith

cut : (w h s i n : ℕ) → s * 4 < h → s * (4 * w) + i ≡ n → n < w * h → i < w * (h - s * 4)
cut w h s i n k e l =
    let g : h ≡ s * 4 + (h - s * 4) = omega arith in
    let P : ℕ → Type 0 = λ x. n < w * x in
    short w s (h - s * 4) i n e (subst P g l)

-- the place in the stripe is one of its rows and columns
few : (w a i : ℕ) → i < 4 * w → i < w * a → i < w * min 4 a
few w a i p q = elim (cases_lt a 4) [ inl m ↦ (let f : min 4 a ≡ a = omega arith in rw f q) | inr m ↦ (let f : min 4 a ≡ 4 = omega arith in rw f (omega arith)) ]

pub column_inside : (w h n : ℕ) → n < w * h → scan_column w h n < w
unfolding scan_column
column_inside w h n l =
    let k = in_stripe w h n l in
    let p = factor_some n w h l in
    let r : 0 < stripe_rows w h n = omega arith in
    let f = few w (h - n / (4 * w) * 4) (n % (4 * w)) (mod-lt n (omega arith)) (cut w h (n / (4 * w)) (n % (4 * w)) n k (div-add-mod' n (4 * w)) l) in
    (div-lt_iff_lt-mul r).1 f

pub row_inside : (w h n : ℕ) → n < w * h → scan_row w h n < h
unfolding scan_row
row_inside w h n l =
    let k = in_stripe w h n l in
    let r : 0 < stripe_rows w h n = omega arith in
    let m = mod-lt (n % (4 * w)) r in
    omega arith
