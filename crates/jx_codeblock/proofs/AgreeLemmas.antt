-- Segments that are the same to a decoder which looked at so many bytes of one of them.
use Rattle.std.proofs.Common.{◌≡◌, ◌<◌, ◌≤◌, ◌+◌, ◌-◌, ◌==◌, ℕ, zero, suc, Bool, true, false, ◌&&◌, nat_lt, List, [], ◌∷◌, ◌++◌, length, take, get_or, min, replicate, inl, inr, ◌∙◌, ap, sym, subst, refl, arith}
use Rattle.std.proofs.lemmas.Bool.{cases_lt, cases_Bool, cond-true, cond-false, eqb-true, lt-ltb}
use Rattle.std.proofs.lemmas.List.{get_or-take, get_or_append_left, get_or-append_right}
use Rattle.jx_coder_specs.specs.MqReading.{mq_byte}
use Rattle.jx_coder_specs.specs.RawBits.{bits_of, raw_width, raw_bits, raw_bits_after, raw_looked, raw_looked_after}
use Rattle.jx_mq.proofs.Segments.{left_out}
use Rattle.jx_raw.proofs.Reading.{length-bits_of}
use Rattle.jx_codeblock.specs.Segments.{less_last_ff}
use Rattle.jx_tier1_specs.proofs.WroteLemmas.{isnt_none}

-- the second segment has the bytes that were looked at in the first, FF past its end, and the raw bits that these bytes have
pub record Agrees (s t : List ℕ) (looked : ℕ) : Type 0 where
  pub bytes : (i : ℕ) → i < looked → mq_byte t i ≡ mq_byte s i
  pub past : (i : ℕ) → length s ≤ i → mq_byte t i ≡ mq_byte s i
  pub bits : (n : ℕ) → raw_looked s (suc n) ≤ looked → get_or (raw_bits t) n true ≡ get_or (raw_bits s) n true

pub agrees_same : (s : List ℕ) (looked : ℕ) → Agrees s s looked
agrees_same s looked = record { bytes = λ i lt. refl; past = λ i le. refl; bits = λ n le. refl }

pub agrees_fewer : (s t : List ℕ) (m n : ℕ) → m ≤ n → Agrees s t n → Agrees s t m
agrees_fewer s t m n most h = record {
  bytes = λ (i : ℕ) (lt : i < m). h.bytes i (omega arith);
  past = h.past;
  bits = λ (k : ℕ) (le : raw_looked s (suc k) ≤ m). h.bits k (omega arith);
}

-- as far as the arithmetic decoder looks, in the segment and past its end
pub agrees_reader : (s t : List ℕ) (n looked : ℕ) → Agrees s t n → min looked (length s) ≤ n → (i : ℕ) → i < looked → mq_byte t i ≡ mq_byte s i
agrees_reader s t n looked h most i lt = elim (cases_lt i (length s)) [
  | inl inside ↦ h.bytes i (omega arith)
  | inr past ↦ h.past i past
]

-- ---- the first bytes of a segment have its first bits
looked_step : (before byte : ℕ) (rest : List ℕ) (n : ℕ) → raw_looked_after before (byte ∷ rest) (suc n) ≡ 1 + raw_looked_after byte rest (suc n - raw_width before)
looked_step before byte rest n = cond-false (suc n == 0) 0 (1 + raw_looked_after byte rest (suc n - raw_width before)) (isnt_none n)

-- a bit of a byte, and one of the bytes behind it
bit_here : (w byte n : ℕ) (bits : List Bool) → n < w → get_or (bits_of w byte ++ bits) n true ≡ get_or (bits_of w byte) n true
bit_here w byte n bits lt = let e = length-bits_of w byte in get_or_append_left (bits_of w byte) bits true n (omega arith)

bit_behind : (w byte n : ℕ) (bits : List Bool) → w ≤ n → get_or (bits_of w byte ++ bits) n true ≡ get_or bits (n - w) true
bit_behind w byte n bits le = get_or-append_right (bits_of w byte) bits w n true (length-bits_of w byte) le

-- bits that differ behind a byte alone
bit_same : (w byte n : ℕ) (p q : List Bool) → (w ≤ n → get_or p (n - w) true ≡ get_or q (n - w) true) → get_or (bits_of w byte ++ p) n true ≡ get_or (bits_of w byte ++ q) n true
bit_same w byte n p q h = elim (cases_lt n w) [
  | inl here ↦ bit_here w byte n p here ∙ sym (bit_here w byte n q here)
  | inr behind ↦ bit_behind w byte n p behind ∙ h behind ∙ sym (bit_behind w byte n q behind)
]

cut_bit : (before : ℕ) (bytes : List ℕ) (n k : ℕ) → raw_looked_after before bytes (suc n) ≤ k
    → get_or (raw_bits_after before (take k bytes)) n true ≡ get_or (raw_bits_after before bytes) n true
cut_bit before [] n zero le = refl
cut_bit before [] n (suc k) le = refl
cut_bit before (byte ∷ rest) n zero le = let e = looked_step before byte rest n in absurd (omega arith)
cut_bit before (byte ∷ rest) n (suc k) le =
    let e = looked_step before byte rest n in
    bit_same (raw_width before) byte n (raw_bits_after byte (take k rest)) (raw_bits_after byte rest) (λ (behind : raw_width before ≤ n).
    let next : suc (n - raw_width before) ≡ suc n - raw_width before = omega arith in
    let left : raw_looked_after byte rest (suc n - raw_width before) ≤ k = omega arith in
    cut_bit byte rest (n - raw_width before) k (subst (λ (m : ℕ). raw_looked_after byte rest m ≤ k) (sym next) left))

-- ---- a last FF has bits 1, which stand past the end too
none_there : (n : ℕ) → get_or {A = Bool} [] n true ≡ true
none_there zero = refl
none_there (suc n) = refl

all_ones : (k n : ℕ) → get_or (replicate k true) n true ≡ true
all_ones zero n = none_there n
all_ones (suc k) zero = refl
all_ones (suc k) (suc n) = all_ones k n

eight_ones : bits_of 8 255 ≡ replicate 8 true
eight_ones = refl

seven_ones : bits_of 7 255 ≡ replicate 7 true
seven_ones = refl

ones : (before n : ℕ) → get_or (bits_of (raw_width before) 255) n true ≡ true
ones before n = elim (cases_Bool (before == 255)) [
  | inl t ↦ ap (λ (w : ℕ). get_or (bits_of w 255) n true) (cond-true (before == 255) 7 8 t) ∙ ap (λ (bits : List Bool). get_or bits n true) seven_ones ∙ all_ones 7 n
  | inr f ↦ ap (λ (w : ℕ). get_or (bits_of w 255) n true) (cond-false (before == 255) 7 8 f) ∙ ap (λ (bits : List Bool). get_or bits n true) eight_ones ∙ all_ones 8 n
]

last_ff : (before : ℕ) (bytes : List ℕ) (n : ℕ) → get_or (raw_bits_after before (bytes ++ 255 ∷ [])) n true ≡ get_or (raw_bits_after before bytes) n true
last_ff before [] n = elim (cases_lt n (raw_width before)) [
  | inl here ↦ bit_here (raw_width before) 255 n [] here ∙ ones before n ∙ sym (none_there n)
  | inr behind ↦ bit_behind (raw_width before) 255 n [] behind ∙ none_there (n - raw_width before) ∙ sym (none_there n)
]
last_ff before (byte ∷ rest) n =
    bit_same (raw_width before) byte n (raw_bits_after byte (rest ++ 255 ∷ [])) (raw_bits_after byte rest) (λ (behind : raw_width before ≤ n).
    last_ff byte rest (n - raw_width before))

take_ff : (s : List ℕ) (k : ℕ) → get_or s k 0 ≡ 255 → take (suc k) s ≡ take k s ++ 255 ∷ []
take_ff [] zero e = absurd (omega arith)
take_ff [] (suc k) e = absurd (omega arith)
take_ff (byte ∷ rest) zero e = ap (λ (b : ℕ). b ∷ []) e
take_ff (byte ∷ rest) (suc k) e = ap (λ (bytes : List ℕ). byte ∷ bytes) (take_ff rest k e)

-- ---- a segment that is cut
pub agrees_whole : (s : List ℕ) (n : ℕ) → Agrees s (take n s) n
agrees_whole s n = record {
  bytes = λ (i : ℕ) (lt : i < n). get_or-take n s i 255 lt;
  past = past_end s n;
  bits = λ (k : ℕ) (le : raw_looked s (suc k) ≤ n). cut_bit 0 s k n le;
}
  where
    past_end : (bytes : List ℕ) (m i : ℕ) → length bytes ≤ i → get_or (take m bytes) i 255 ≡ get_or bytes i 255
    past_end [] zero i le = refl
    past_end [] (suc m) i le = refl
    past_end (byte ∷ rest) m zero le = absurd (omega arith)
    past_end (byte ∷ rest) zero (suc i) le = nothing rest i (omega arith)
      where
        nothing : (bytes : List ℕ) (j : ℕ) → length bytes ≤ j → 255 ≡ get_or bytes j 255
        nothing [] zero le = refl
        nothing [] (suc j) le = refl
        nothing (b ∷ bs) zero le = absurd (omega arith)
        nothing (b ∷ bs) (suc j) le = nothing bs j (omega arith)
    past_end (byte ∷ rest) (suc m) (suc i) le = past_end rest m i (omega arith)

drop_last : (s t : List ℕ) (n : ℕ) → Agrees s (t ++ 255 ∷ []) n → Agrees s t n
drop_last s t n h = record {
  bytes = λ (i : ℕ) (lt : i < n). sym (left_out t i) ∙ h.bytes i lt;
  past = λ (i : ℕ) (le : length s ≤ i). sym (left_out t i) ∙ h.past i le;
  bits = λ (k : ℕ) (le : raw_looked s (suc k) ≤ n). sym (last_ff 0 t k) ∙ h.bits k le;
}

-- behind the bytes that were looked at, less a last FF
pub agrees_cut : (s : List ℕ) (looked n : ℕ) → less_last_ff s looked ≡ n → Agrees s (take n s) looked
agrees_cut s zero n e =
    let same : less_last_ff s 0 ≡ 0 = refl in
    subst (λ (m : ℕ). Agrees s (take m s) 0) (sym same ∙ e) (agrees_whole s 0)
agrees_cut s (suc m) n e =
    let back : suc m - 1 ≡ m = omega arith in
    elim (cases_Bool (get_or s (suc m - 1) 0 == 255)) [
      | inl t ↦
          let here : get_or s m 0 ≡ 255 = ap (λ (k : ℕ). get_or s k 0) (sym back) ∙ eqb-true (get_or s (suc m - 1) 0) 255 t in
          let all : (nat_lt 0 (suc m) && get_or s (suc m - 1) 0 == 255) ≡ true =
          ap (λ (b : Bool). b && get_or s (suc m - 1) 0 == 255) (lt-ltb 0 (suc m) (omega arith)) ∙ t in
          let fewer : less_last_ff s (suc m) ≡ m = cond-true (nat_lt 0 (suc m) && get_or s (suc m - 1) 0 == 255) (suc m - 1) (suc m) all ∙ back in
          subst (λ (k : ℕ). Agrees s (take k s) (suc m)) (sym fewer ∙ e)
          (drop_last s (take m s) (suc m) (subst (λ (t : List ℕ). Agrees s t (suc m)) (take_ff s m here) (agrees_whole s (suc m))))
      | inr f ↦
          let none : (nat_lt 0 (suc m) && get_or s (suc m - 1) 0 == 255) ≡ false =
          ap (λ (b : Bool). b && get_or s (suc m - 1) 0 == 255) (lt-ltb 0 (suc m) (omega arith)) ∙ f in
          let same : less_last_ff s (suc m) ≡ suc m = cond-false (nat_lt 0 (suc m) && get_or s (suc m - 1) 0 == 255) (suc m - 1) (suc m) none in
          subst (λ (k : ℕ). Agrees s (take k s) (suc m)) (sym same ∙ e) (agrees_whole s (suc m))
    ]
