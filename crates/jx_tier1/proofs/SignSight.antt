-- What windows show of the signs by a place.
use Rattle.std.proofs.Common.{◌≡◌, ◌<◌, ◌+◌, ◌-◌, ◌*◌, ◌/◌, ◌%◌, ◌==◌, ◌&&◌, ℕ, Bool, true, false, not, refl, sym, ap, ◌∙◌, arith, inl, inr, if◌then◌else◌}
use Rattle.std.specs.Int.{bit_at}
use Rattle.std.proofs.lemmas.Bool.{cases_Bool}
use Rattle.jx_tier1_specs.specs.declared.coef.Coef.{Coef}
use Rattle.jx_tier1_specs.specs.Cells.{Cells, coef_at, significant}
use Rattle.jx_tier1_specs.specs.Near.{one_if, one_at, coef_near, across_of, down_of}
use Rattle.jx_tier1_specs.specs.Labels.{sign_row}
use Rattle.jx_tier1.specs.Blocks.{seen_if, Sees}
use Rattle.jx_tier1.specs.Contexts.{plus_at, minus_at, sign_context}
use Rattle.jx_tier1.specs.Marks.{mark, minus}
use Rattle.jx_tier1.specs.Places.{HasFour}
use Rattle.jx_tier1.proofs.BitLemmas.{bit_shr}
use Rattle.jx_tier1.proofs.MarkLemmas.{IsInside, inside_not}
use Rattle.jx_tier1.proofs.SightLemmas.{sees_nine, near_as, shown}
use Rattle.jx_tier1.proofs.SignLemmas.{near_inside, near_itself, across_is, down_from}
use Rattle.jx_tier1.proofs.WindowLemmas.{one_tested}

pub minus_in : (g : Cells) (c r : ℕ) → IsInside g c r → minus g c r ≡ one_if (coef_at g (c - 1) (r - 1)).negative
unfolding minus
minus_in g c r i = rw (inside_not g c r i) refl

zero_one : (n : ℕ) → n ≡ 0 → n ≡ 1 → ⊥
zero_one n e f = omega arith

-- what is seen to be significant isn't hidden
not_hidden : (causal : Bool) (row n : ℕ) → seen_if causal row n ≡ 1 → (causal && row == 5) ≡ false
not_hidden causal row n e =
    elim (cases_Bool (causal && row == 5)) [
      | inl p ↦ absurd (zero_one (seen_if causal row n) (ap (λ (b : Bool). if b then 0 else n) p) e)
      | inr p ↦ p
    ]

-- the sign of a neighbour that is significant
minus_seen : (g : Cells) (causal : Bool) (x y v c r d e column row i : ℕ) → Sees causal (minus g) x y (v / 2) → y % 4 ≡ 0 → c < 8 → r < 4 → d < 3 → e < 3
    → column ≡ x + c + d → row ≡ y + r + e → i ≡ 6 * c + r + (6 * d + e) + 1
    → significant (coef_near g causal (y + r) column row) ≡ true → bit_at v i ≡ one_if (coef_near g causal (y + r) column row).negative
minus_seen g causal x y v c r d e column row i s f p q l m j k h t =
    let o : y + (r + e) ≡ row = omega arith in
    let a : x + (c + d) ≡ column = omega arith in
    let b : i ≡ 6 * (c + d) + (r + e) + 1 = omega arith in
    let u : y + r + e ≡ row = omega arith in
    let one : seen_if causal (r + e) (mark g column (y + r + e)) ≡ 1 =
    near_as g causal y r e column f q m ∙ (ap (λ (n : ℕ). one_at g causal (y + r) column n) u ∙ ap one_if t) in
    let z = not_hidden causal (r + e) (mark g column (y + r + e)) one in
    let inside = near_inside g causal (y + r) column row t in
    ap (λ (n : ℕ). bit_at v n) b
    ∙ (sym (bit_shr v 1 (6 * (c + d) + (r + e)))
    ∙ (s.at (c + d) (r + e) (omega arith) (omega arith)
    ∙ (shown causal (r + e) (minus g (x + (c + d)) (y + (r + e))) z
    ∙ (ap (λ (n : ℕ). minus g n (y + (r + e))) a
    ∙ (ap (λ (n : ℕ). minus g column n) o
    ∙ (minus_in g column row inside ∙ ap (λ (n : Coef). one_if n.negative) (sym (near_itself g causal (y + r) column row t))))))))

-- one neighbour, by its two bits
record IsSide (n i : ℕ) (c : Coef) : Type 0 where
  plus : plus_at n i ≡ (significant c && not c.negative)
  minus : minus_at n i ≡ (significant c && c.negative)

plus_is : (a b s m : Bool) → a ≡ s → (s ≡ true → b ≡ m) → (a && not b) ≡ (s && not m)
plus_is true b s m e f = rw (f (sym e), sym e) refl
plus_is false b s m e f = rw (sym e) refl

minus_is : (a b s m : Bool) → a ≡ s → (s ≡ true → b ≡ m) → (a && b) ≡ (s && m)
minus_is true b s m e f = rw (f (sym e), sym e) refl
minus_is false b s m e f = rw (sym e) refl

side_is : (n i : ℕ) (c : Coef) → bit_at n i ≡ one_if (significant c) → (significant c ≡ true → bit_at n (i + 1) ≡ one_if c.negative) → IsSide n i c
side_is n i c e f =
    let a : (bit_at n i == 1) ≡ significant c = ap (λ (z : ℕ). z == 1) e ∙ one_tested (significant c) in
    let b : significant c ≡ true → (bit_at n (i + 1) == 1) ≡ c.negative = λ (t : significant c ≡ true). ap (λ (z : ℕ). z == 1) (f t) ∙ one_tested c.negative in
    record {
      plus = plus_is (bit_at n i == 1) (bit_at n (i + 1) == 1) (significant c) c.negative a b;
      minus = minus_is (bit_at n i == 1) (bit_at n (i + 1) == 1) (significant c) c.negative a b;
    }

pub sign_seen : (g : Cells) (causal : Bool) (x y w v c r n : ℕ) → Sees causal (mark g) x y w → Sees causal (minus g) x y (v / 2) → y % 4 ≡ 0 → c < 8 → r < 4
    → HasFour w v (6 * c + r) n → sign_context n ≡ sign_row (across_of g causal (x + c) (y + r)) (down_of g causal (x + c) (y + r))
unfolding sign_context
sign_seen g causal x y w v c r n s t f p q h =
    let i : ℕ = 6 * c + r in
    let nine = sees_nine g causal x y w c r s f p q in
    let east : i + 13 ≡ i + 12 + 1 = omega arith in
    let south : i + 8 ≡ i + 6 + 2 = omega arith in
    let us = side_is n 0 (coef_near g causal (y + r) (x + c + 1) (y + r)) (h.north ∙ nine.north)
    (λ z. h.north_sign ∙ minus_seen g causal x y v c r 1 0 (x + c + 1) (y + r) (i + 7) t f p q (omega arith) (omega arith) (omega arith) (omega arith) (omega arith) z) in
    let ds = side_is n 2 (coef_near g causal (y + r) (x + c + 1) (y + r + 2)) (h.south ∙ (ap (λ (z : ℕ). bit_at w z) south ∙ nine.south))
    (λ z. h.south_sign ∙ minus_seen g causal x y v c r 1 2 (x + c + 1) (y + r + 2) (i + 9) t f p q (omega arith) (omega arith) (omega arith) (omega arith) (omega arith) z) in
    let ls = side_is n 4 (coef_near g causal (y + r) (x + c) (y + r + 1)) (h.west ∙ nine.west)
    (λ z. h.west_sign ∙ minus_seen g causal x y v c r 0 1 (x + c) (y + r + 1) (i + 2) t f p q (omega arith) (omega arith) (omega arith) (omega arith) (omega arith) z) in
    let rs = side_is n 7 (coef_near g causal (y + r) (x + c + 2) (y + r + 1)) (h.east ∙ (ap (λ (z : ℕ). bit_at w z) east ∙ nine.east))
    (λ z. h.east_sign ∙ minus_seen g causal x y v c r 2 1 (x + c + 2) (y + r + 1) (i + 14) t f p q (omega arith) (omega arith) (omega arith) (omega arith) (omega arith) z) in
    let a = across_is g causal (x + c) (y + r) (plus_at n 4) (minus_at n 4) (plus_at n 7) (minus_at n 7) ls.plus ls.minus rs.plus rs.minus in
    let d = down_from g causal (x + c) (y + r) (plus_at n 0) (minus_at n 0) (plus_at n 2) (minus_at n 2) us.plus us.minus ds.plus ds.minus in
    rw (a, d) refl
