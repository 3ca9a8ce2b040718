-- Words with a bit more, and words without their first bits.
use Rattle.std.proofs.Common.{◌≡◌, ◌<◌, ◌≤◌, ◌+◌, ◌-◌, ◌*◌, ◌%◌, ◌^◌, ℕ, zero, suc, min, max, Bool, true, false, refl, sym, ap, ◌∙◌, arith, inl, inr}
use Rattle.std.specs.Prelude.{◌≢◌}
use Rattle.std.specs.Int.{bit_at}
use Rattle.std.specs.Int.Bits.{bit_and, bit_or}
use Rattle.std.proofs.lemmas.Bool.{cases_lt}
use Rattle.std.proofs.lemmas.Nat.Bits.{bit_at-lt, bit_at_above, bit_at_mask_inside, bit_at-pow_same, bit_at-pow_other, bit_at-zero}
use Rattle.std.proofs.Math.Nat.{mod-lt}
use mir.Val.{bool_byte}
use Rattle.jx_tier1_specs.specs.Near.{one_if}
use Rattle.jx_tier1.proofs.BitLemmas.{bit_shl, bit_shl_low, or_bit, and_bit}

-- the places behind one
pub mask_before : (place i : ℕ) → place < 64 → i ≤ place → bit_at (18446744073709551614 * 2 ^ place % 18446744073709551616) i ≡ 0
mask_before place i l m =
    elim (cases_lt i place) [
      | inl p ↦ bit_shl_low 18446744073709551614 place i p (omega arith)
      | inr p ↦
          (let e : i - place ≡ 0 = omega arith in
          bit_shl 18446744073709551614 place i p (omega arith) ∙ ap (λ (z : ℕ). bit_at 18446744073709551614 z) e)
    ]

pub mask_behind : (place i : ℕ) → place < i → i < 64 → bit_at (18446744073709551614 * 2 ^ place % 18446744073709551616) i ≡ 1
mask_behind place i l m = bit_shl 18446744073709551614 place i (omega arith) m ∙ bit_at_mask_inside 1 64 (i - place) (omega arith) (omega arith)

pub behind_before : (places place i : ℕ) → place < 64 → i ≤ place → bit_at (bit_and places (18446744073709551614 * 2 ^ place % 18446744073709551616)) i ≡ 0
behind_before places place i l m =
    and_bit places (18446744073709551614 * 2 ^ place % 18446744073709551616) i (bit_at places i) 0 refl (mask_before place i l m)
    ∙ (let e : min (bit_at places i) 0 ≡ 0 = omega arith in e)

pub behind_same : (places place i : ℕ) → places < 18446744073709551616 → place < i
    → bit_at (bit_and places (18446744073709551614 * 2 ^ place % 18446744073709551616)) i ≡ bit_at places i
behind_same places place i f l =
    let n : ℕ = 18446744073709551614 * 2 ^ place % 18446744073709551616 in
    let b = bit_at-lt places i in
    elim (cases_lt i 64) [
      | inl p ↦
          (and_bit places n i (bit_at places i) 1 refl (mask_behind place i l p)
          ∙ (let e : min (bit_at places i) 1 ≡ bit_at places i = omega arith in e))
      | inr p ↦
          (let z : bit_at places i ≡ 0 = bit_at_above places 64 i f p in
          and_bit places n i 0 (bit_at n i) z refl ∙ (let e : min 0 (bit_at n i) ≡ 0 = omega arith in e) ∙ sym z)
    ]

-- one bit more
pub bit_other : (place k i : ℕ) → i ≢ place + k → bit_at (2 ^ k * 2 ^ place % 18446744073709551616) i ≡ 0
bit_other place k i n =
    elim (cases_lt i 64) [
      | inl p ↦
          elim (cases_lt i place) [
            | inl q ↦ bit_shl_low (2 ^ k) place i q p
            | inr q ↦ bit_shl (2 ^ k) place i q p ∙ bit_at-pow_other k (i - place) (λ e. n (omega arith))
          ]
      | inr p ↦ bit_at_above (2 ^ k * 2 ^ place % 18446744073709551616) 64 i (mod-lt (2 ^ k * 2 ^ place) (omega arith)) p
    ]

pub bit_there : (place k : ℕ) → place + k < 64 → bit_at (2 ^ k * 2 ^ place % 18446744073709551616) (place + k) ≡ 1
bit_there place k l =
    let e : place + k - place ≡ k = omega arith in
    bit_shl (2 ^ k) place (place + k) (omega arith) l ∙ (ap (λ (z : ℕ). bit_at (2 ^ k) z) e ∙ bit_at-pow_same k)

pub raised_there : (w place : ℕ) → place < 57 → bit_at (bit_or w (128 * 2 ^ place % 18446744073709551616)) (place + 7) ≡ 1
raised_there w place l =
    let n : ℕ = 128 * 2 ^ place % 18446744073709551616 in
    let b = bit_at-lt w (place + 7) in
    or_bit w n (place + 7) (bit_at w (place + 7)) 1 refl (bit_there place 7 (omega arith))
    ∙ (let e : max (bit_at w (place + 7)) 1 ≡ 1 = omega arith in e)

pub raised_other : (w place i : ℕ) → i ≢ place + 7 → bit_at (bit_or w (128 * 2 ^ place % 18446744073709551616)) i ≡ bit_at w i
raised_other w place i n =
    or_bit w (128 * 2 ^ place % 18446744073709551616) i (bit_at w i) 0 refl (bit_other place 7 i n)
    ∙ (let e : max (bit_at w i) 0 ≡ bit_at w i = omega arith in e)

-- a sign more
byte_is : (b : Bool) → bool_byte b ≡ one_if b
byte_is true = refl
byte_is false = refl

flag_there : (b : Bool) (k : ℕ) → k < 64 → bit_at (one_if b * 2 ^ k % 18446744073709551616) k ≡ one_if b
flag_there true k l = ap (λ (z : ℕ). bit_at (1 * 2 ^ k % 18446744073709551616) z) (let e : k ≡ k + 0 = omega arith in e) ∙ bit_there k 0 (omega arith)
flag_there false k l = bit_shl 0 k k (omega arith) l ∙ bit_at-zero (k - k)

flag_other : (b : Bool) (k i : ℕ) → i ≢ k → bit_at (one_if b * 2 ^ k % 18446744073709551616) i ≡ 0
flag_other true k i n = bit_other k 0 i (λ e. n (omega arith))
flag_other false k i n =
    let e : 0 * 2 ^ k % 18446744073709551616 ≡ 0 = omega arith in
    ap (λ (z : ℕ). bit_at z i) e ∙ bit_at-zero i

pub signed_there : (x k n : ℕ) (b : Bool) → n ≡ bool_byte b → k < 64 → bit_at (bit_or x (n * 2 ^ k % 18446744073709551616)) k ≡ max (bit_at x k) (one_if b)
signed_there x k n b e l =
    ap (λ (m : ℕ). bit_at (bit_or x (m * 2 ^ k % 18446744073709551616)) k) (e ∙ byte_is b)
    ∙ or_bit x (one_if b * 2 ^ k % 18446744073709551616) k (bit_at x k) (one_if b) refl (flag_there b k l)

pub signed_other : (x k i n : ℕ) (b : Bool) → n ≡ bool_byte b → i ≢ k → bit_at (bit_or x (n * 2 ^ k % 18446744073709551616)) i ≡ bit_at x i
signed_other x k i n b e m =
    ap (λ (z : ℕ). bit_at (bit_or x (z * 2 ^ k % 18446744073709551616)) i) (e ∙ byte_is b)
    ∙ (or_bit x (one_if b * 2 ^ k % 18446744073709551616) i (bit_at x i) 0 refl (flag_other b k i m)
    ∙ (let d : max (bit_at x i) 0 ≡ bit_at x i = omega arith in d))

-- four places that follow one
pub following_there : (place k : ℕ) → place + k < 64 → bit_at 226 k ≡ 1 → bit_at (226 * 2 ^ place % 18446744073709551616) (place + k) ≡ 1
following_there place k l e =
    let d : place + k - place ≡ k = omega arith in
    bit_shl 226 place (place + k) (omega arith) l ∙ (ap (λ (z : ℕ). bit_at 226 z) d ∙ e)

no_more : (j : ℕ) → j ≢ 1 → j ≢ 5 → j ≢ 6 → j ≢ 7 → bit_at 226 j ≡ 0
no_more zero a b c d = refl
no_more (suc zero) a b c d = absurd (a refl)
no_more (suc (suc zero)) a b c d = refl
no_more (suc (suc (suc zero))) a b c d = refl
no_more (suc (suc (suc (suc zero)))) a b c d = refl
no_more (suc (suc (suc (suc (suc zero))))) a b c d = absurd (b refl)
no_more (suc (suc (suc (suc (suc (suc zero)))))) a b c d = absurd (c refl)
no_more (suc (suc (suc (suc (suc (suc (suc zero))))))) a b c d = absurd (d refl)
no_more (suc (suc (suc (suc (suc (suc (suc (suc j)))))))) a b c d = bit_at_above 226 8 (suc (suc (suc (suc (suc (suc (suc (suc j)))))))) (omega arith) (omega arith)

pub following_other : (place i : ℕ) → i ≢ place + 1 → i ≢ place + 5 → i ≢ place + 6 → i ≢ place + 7 → bit_at (226 * 2 ^ place % 18446744073709551616) i ≡ 0
following_other place i a b c d =
    elim (cases_lt i 64) [
      | inl p ↦
          elim (cases_lt i place) [
            | inl q ↦ bit_shl_low 226 place i q p
            | inr q ↦ bit_shl 226 place i q p ∙ no_more (i - place) (λ e. a (omega arith)) (λ e. b (omega arith)) (λ e. c (omega arith)) (λ e. d (omega arith))
          ]
      | inr p ↦ bit_at_above (226 * 2 ^ place % 18446744073709551616) 64 i (mod-lt (226 * 2 ^ place) (omega arith)) p
    ]
