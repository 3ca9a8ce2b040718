-- Columns whose four places are in a word.
use Rattle.std.proofs.Common.{◌≡◌, ◌≢◌, ◌<◌, ◌≤◌, ◌+◌, ◌/◌, ◌%◌, ◌&&◌, ℕ, min, Bool, true, false, refl, ap, ◌∙◌, arith, inl, inr}
use Rattle.std.specs.Prelude.{nat_lt}
use Rattle.std.specs.Int.{bit_at}
use Rattle.std.specs.Int.Bits.{bit_and}
use Rattle.std.proofs.lemmas.Bool.{cases_lt, lt-ltb, le-ltb}
use Rattle.std.proofs.lemmas.Nat.Bits.{bit_at_above, bit_at-lt}
use Rattle.jx_tier1_specs.specs.Near.{one_if}
use Rattle.jx_tier1.proofs.BitLemmas.{bit_shr, and_bit}
use Rattle.jx_tier1.proofs.RowLemmas.{one_row}

four_bits : (w i : ℕ) → bit_at (bit_and (bit_and (bit_and w (w / 2)) (w / 4)) (w / 8)) i
    ≡ min (min (min (bit_at w i) (bit_at w (i + 1))) (bit_at w (i + 2))) (bit_at w (i + 3))
four_bits w i =
    and_bit (bit_and (bit_and w (w / 2)) (w / 4)) (w / 8) i (min (min (bit_at w i) (bit_at w (i + 1))) (bit_at w (i + 2))) (bit_at w (i + 3))
    (and_bit (bit_and w (w / 2)) (w / 4) i (min (bit_at w i) (bit_at w (i + 1))) (bit_at w (i + 2))
    (and_bit w (w / 2) i (bit_at w i) (bit_at w (i + 1)) refl (bit_shr w 1 i)) (bit_shr w 2 i))
    (bit_shr w 3 i)

by_four : (a b c d : ℕ) → a ≤ 1 → min (min (min (min a b) c) d) 1 ≡ min (min a b) (min c d)
by_four a b c d l = omega arith

pub columns_first : (w i : ℕ) → i < 48 → i % 6 ≡ 0
    → bit_at (bit_and (bit_and (bit_and (bit_and w (w / 2)) (w / 4)) (w / 8)) 0x041041041041) i
    ≡ min (min (bit_at w i) (bit_at w (i + 1))) (min (bit_at w (i + 2)) (bit_at w (i + 3)))
columns_first w i l r =
    let a = bit_at-lt w i in
    let b : nat_lt (i % 6) 1 ≡ true = lt-ltb (i % 6) 1 (omega arith) in
    let c : nat_lt i 48 ≡ true = lt-ltb i 48 l in
    let m : bit_at 0x041041041041 i ≡ 1 = one_row i (omega arith) ∙ (ap (λ (t : Bool). one_if (t && nat_lt i 48)) b ∙ ap (λ (t : Bool). one_if (true && t)) c) in
    and_bit (bit_and (bit_and (bit_and w (w / 2)) (w / 4)) (w / 8)) 0x041041041041 i
    (min (min (min (bit_at w i) (bit_at w (i + 1))) (bit_at w (i + 2))) (bit_at w (i + 3))) 1 (four_bits w i) m
    ∙ by_four (bit_at w i) (bit_at w (i + 1)) (bit_at w (i + 2)) (bit_at w (i + 3)) (omega arith)

and_second : (a b : Bool) → b ≡ false → (a && b) ≡ false
and_second true b e = e
and_second false b e = refl

masked : (w m i : ℕ) → bit_at m i ≡ 0 → bit_at (bit_and w m) i ≡ 0
masked w m i e = and_bit w m i (bit_at w i) 0 refl e ∙ (let f : min (bit_at w i) 0 ≡ 0 = omega arith in f)

above_mask : (i : ℕ) → 64 ≤ i → bit_at 0x041041041041 i ≡ 0
above_mask i l = bit_at_above 0x041041041041 64 i (omega arith) l

pub columns_other : (w i : ℕ) → i % 6 ≢ 0 → bit_at (bit_and (bit_and (bit_and (bit_and w (w / 2)) (w / 4)) (w / 8)) 0x041041041041) i ≡ 0
columns_other w i n =
    masked (bit_and (bit_and (bit_and w (w / 2)) (w / 4)) (w / 8)) 0x041041041041 i
    (elim (cases_lt i 64) [
      | inl l ↦
          (let b : nat_lt (i % 6) 1 ≡ false = le-ltb (i % 6) 1 (let m : i % 6 ≡ 0 → ⊥ = n in omega arith) in
          one_row i l ∙ ap (λ (t : Bool). one_if (t && nat_lt i 48)) b)
      | inr l ↦ above_mask i l
    ])

pub columns_behind : (w i : ℕ) → 48 ≤ i → bit_at (bit_and (bit_and (bit_and (bit_and w (w / 2)) (w / 4)) (w / 8)) 0x041041041041) i ≡ 0
columns_behind w i m =
    masked (bit_and (bit_and (bit_and w (w / 2)) (w / 4)) (w / 8)) 0x041041041041 i
    (elim (cases_lt i 64) [
      | inl l ↦ one_row i l ∙ ap one_if (and_second (nat_lt (i % 6) 1) (nat_lt i 48) (le-ltb i 48 m))
      | inr l ↦ above_mask i l
    ])
