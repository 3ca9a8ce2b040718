-- Bits of shifted words.
use Rattle.std.proofs.Common.{◌≡◌, ◌<◌, ◌≤◌, ◌+◌, ◌-◌, ◌*◌, ◌/◌, ◌%◌, ◌^◌, ◌&&◌, ℕ, zero, suc, min, max, Bool, true, false, refl, sym, ap, ◌∙◌, arith, inl, inr}
use Rattle.std.proofs.lemmas.Bool.{cases_eq}
use Rattle.std.specs.Int.{bit_at}
use Rattle.std.specs.Int.Bits.{bit_and, bit_or}
use Rattle.std.proofs.lemmas.Nat.{and_mask, pow_pos, shr-shr}
use Rattle.std.proofs.lemmas.Nat.Bits.{bit_at_and, bit_at_or, bit_at_ones, bit_at-lt, bit_at-zero, bit_at_cat_low, bit_at_cat_high}

pub bit_mod : (n w i : ℕ) → i < w → bit_at (n % 2 ^ w) i ≡ bit_at n i
bit_mod n w i l =
    let e : bit_at (2 ^ w - 1) i ≡ 1 = bit_at_ones w i l in
    let d : bit_at n i < 2 = bit_at-lt n i in
    let f : min (bit_at n i) (bit_at (2 ^ w - 1) i) ≡ bit_at n i = omega arith in
    ap (λ (m : ℕ). bit_at m i) (sym (and_mask n w)) ∙ (bit_at_and n (2 ^ w - 1) i ∙ f)

-- a word of 64 bits, shifted to the left
pub bit_shl : (n k i : ℕ) → k ≤ i → i < 64 → bit_at (n * 2 ^ k % 2 ^ 64) i ≡ bit_at n (i - k)
bit_shl n k i l m =
    let e : n * 2 ^ k ≡ n * 2 ^ k + 0 = omega arith in
    bit_mod (n * 2 ^ k) 64 i m ∙ (ap (λ (z : ℕ). bit_at z i) e ∙ bit_at_cat_high n k 0 i (pow_pos k) l)

pub bit_shl_low : (n k i : ℕ) → i < k → i < 64 → bit_at (n * 2 ^ k % 2 ^ 64) i ≡ 0
bit_shl_low n k i l m =
    let e : n * 2 ^ k ≡ n * 2 ^ k + 0 = omega arith in
    bit_mod (n * 2 ^ k) 64 i m ∙ (ap (λ (z : ℕ). bit_at z i) e ∙ (bit_at_cat_low n k 0 i l ∙ bit_at-zero i))

-- and to the right
pub bit_shr : (n k i : ℕ) → bit_at (n / 2 ^ k) i ≡ bit_at n (i + k)
bit_shr n k i =
    let e : k + i ≡ i + k = omega arith in
    ap (λ (z : ℕ). z % 2) (shr-shr n k i) ∙ ap (λ (z : ℕ). bit_at n z) e

-- words of which a bit is known
pub or_bit : (a b i p q : ℕ) → bit_at a i ≡ p → bit_at b i ≡ q → bit_at (bit_or a b) i ≡ max p q
or_bit a b i p q e f = bit_at_or a b i ∙ (ap (λ (z : ℕ). max z (bit_at b i)) e ∙ ap (λ (z : ℕ). max p z) f)

pub and_bit : (a b i p q : ℕ) → bit_at a i ≡ p → bit_at b i ≡ q → bit_at (bit_and a b) i ≡ min p q
and_bit a b i p q e f = bit_at_and a b i ∙ (ap (λ (z : ℕ). min z (bit_at b i)) e ∙ ap (λ (z : ℕ). min p z) f)

and_first : (a b : Bool) → (a && b) ≡ true → a ≡ true
and_first true b e = refl
and_first false b e = e

and_second : (a b : Bool) → (a && b) ≡ true → b ≡ true
and_second true b e = e
and_second false true e = refl
and_second false false e = e

-- what a test says of each number below one
abbrev pub all_below : ℕ → (ℕ → Bool) → Bool
all_below zero f = true
all_below (suc n) f = f n && all_below n f

pub below_all : (n i : ℕ) (f : ℕ → Bool) → all_below n f ≡ true → i < n → f i ≡ true
below_all zero i f e l = absurd (omega arith)
below_all (suc n) i f e l =
    elim (cases_eq i n) [
      | inl p ↦ rw p (and_first (f n) (all_below n f) e)
      | inr p ↦ below_all n i f (and_second (f n) (all_below n f) e) (omega arith)
    ]
