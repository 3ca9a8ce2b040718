-- PLT segments have whole lengths, at least one, and none begins with a group of zeros.
use Rattle.std.proofs.Common.{◌≡◌, ◌∙◌, ◌<◌, ◌≤◌, ◌+◌, ◌*◌, ◌/◌, ◌%◌, ◌^◌, nat_eq, nat_le, nat_lt, ℕ, zero, suc, Bool, true, false, ◌&&◌, arith, List, [], ◌∷◌, ◌++◌, length, refl, sym, ap, inl, inr, append-nil, length-append, cond}
use Rattle.std.specs.List.{All, AllByRecursion}
use Rattle.std.proofs.lemmas.Bool.{cases_Bool, cases_lt}
use Rattle.std.proofs.lemmas.Bool.Decides.{nat_tests}
use Rattle.std.proofs.lemmas.List.Elements.{All-from_recursion, All-head, All-nil, All-tail}
use Rattle.jx_packet_header.specs.Words.{size}
use Rattle.jx_packet_header.proofs.PutLemmas.{size_fits, size_le, size_small}
use Rattle.jx_tier2_writer.specs.Told.{AreLengths, are_whole, length_total}
use Rattle.jx_tier2_writer.specs.Lengths.{filled, length_bytes, length_size, septets}
use Rattle.jx_tier2_writer.proofs.HeldLemmas.{held_by, septets_long}
use Rattle.jx_tier2_writer.proofs.TellLemmas.{all_words}

-- ---- one byte
low_byte : (fresh : Bool) (byte : ℕ) (bytes : List ℕ) → byte < 128 → are_whole fresh (byte ∷ bytes) ≡ are_whole true bytes
low_byte fresh byte bytes h =
    let low : nat_lt byte 128 ≡ true = is_low byte h in
    let other : nat_eq byte 128 ≡ false = is_other byte h in
    rw (low, other) (none fresh bytes)
  where
    is_low : (n : ℕ) → n < 128 → nat_lt n 128 ≡ true
    is_low n h = grind (arith, nat_tests)

    is_other : (n : ℕ) → n < 128 → nat_eq n 128 ≡ false
    is_other n h = grind (arith, nat_tests)

    none : (fresh : Bool) (bytes : List ℕ) → cond (fresh && false) false (are_whole true bytes) ≡ are_whole true bytes
    none true bytes = refl
    none false bytes = refl

is_high : (n : ℕ) → nat_lt (128 + n) 128 ≡ false
is_high n = grind (arith, nat_tests)

high_byte : (byte : ℕ) (bytes : List ℕ) → are_whole false ((128 + byte) ∷ bytes) ≡ are_whole false bytes
high_byte byte bytes = rw (is_high byte) refl

first_byte : (byte : ℕ) (bytes : List ℕ) → 0 < byte → are_whole true ((128 + byte) ∷ bytes) ≡ are_whole false bytes
first_byte byte bytes h =
    let other : nat_eq (128 + byte) 128 ≡ false = is_other byte h in
    rw (other, is_high byte) refl
  where
    is_other : (n : ℕ) → 0 < n → nat_eq (128 + n) 128 ≡ false
    is_other n h = grind (arith, nat_tests)

-- ---- one length
septets_whole : (count n : ℕ) (rest : List ℕ) → are_whole false (septets (suc count) n ++ rest) ≡ are_whole true rest
septets_whole zero n rest = low_byte false (n % 128) rest (omega arith)
septets_whole (suc count) n rest = high_byte (n / 128 ^ suc count % 128) (septets (suc count) n ++ rest) ∙ septets_whole count n rest

-- the first group of a length of two to five bytes isn't zero
first_some : (count n : ℕ) → count ≤ 3 → 2 ^ (7 * (count + 1)) ≤ n → n < 2 ^ (7 * (count + 2)) → 0 < n / 128 ^ suc count % 128
first_some zero n few low high = two n low high
  where
    two : (n : ℕ) → 128 ≤ n → n < 16384 → 0 < n / 128 % 128
    two n low high = omega arith
first_some (suc zero) n few low high = three n low high
  where
    three : (n : ℕ) → 16384 ≤ n → n < 2097152 → 0 < n / 16384 % 128
    three n low high = omega arith
first_some (suc (suc zero)) n few low high = four n low high
  where
    four : (n : ℕ) → 2097152 ≤ n → n < 268435456 → 0 < n / 2097152 % 128
    four n low high = omega arith
first_some (suc (suc (suc zero))) n few low high = five n low high
  where
    five : (n : ℕ) → 268435456 ≤ n → n < 34359738368 → 0 < n / 268435456 % 128
    five n low high = omega arith
first_some (suc (suc (suc (suc count)))) n few low high = absurd (omega arith)

at_least : (n count : ℕ) → length_size n ≡ suc (suc count) → 2 ^ (7 * (count + 1)) ≤ n
at_least n count e = elim (cases_lt n (2 ^ (7 * (count + 1)))) [
  | inl lt ↦ let s : size n ≤ 7 * (count + 1) = size_small n (7 * (count + 1)) lt in absurd (omega arith)
  | inr ge ↦ ge
]

length_whole : (n : ℕ) (rest : List ℕ) → n < 2 ^ 32 → are_whole true (length_bytes n ++ rest) ≡ are_whole true rest
length_whole n rest small = whole_by (length_size n) refl
  where
    whole_by : (k : ℕ) → length_size n ≡ k → are_whole true (septets k n ++ rest) ≡ are_whole true rest
    whole_by zero e = refl
    whole_by (suc zero) e = low_byte true (n % 128) rest (omega arith)
    whole_by (suc (suc count)) e =
        let most : size n ≤ 32 = size_le n in
        let few : count ≤ 3 = omega arith in
        let high : n < 2 ^ (7 * (count + 2)) = size_fits n (7 * (count + 2)) small (omega arith) in
        first_byte (n / 128 ^ suc count % 128) (septets (suc count) n ++ rest) (first_some count n few (at_least n count e) high) ∙ septets_whole count n rest

-- ---- the segments
whole_both : (fresh : Bool) (xs ys : List ℕ) → are_whole fresh xs ≡ true → are_whole fresh (xs ++ ys) ≡ are_whole true ys
whole_both fresh [] ys h = rw h refl
whole_both fresh (x ∷ xs) ys h = elim (cases_Bool (fresh && nat_eq x 128)) [
  | inl t ↦ let e = rw t at h in absurd (cc)
  | inr f ↦ rw f (whole_both (nat_lt x 128) xs ys (rw f at h))
]

one_whole : (n : ℕ) → n < 2 ^ 32 → are_whole true (length_bytes n) ≡ true
one_whole n small = ap (λ (z : List ℕ). are_whole true z) (sym (append-nil (length_bytes n))) ∙ length_whole n [] small

some_bytes : (n : ℕ) → 0 < length (length_bytes n)
some_bytes n = omega (arith, septets_long (length_size n) n)

one_more : (held : List ℕ) (n : ℕ) → are_whole true held ≡ true → n < 2 ^ 32 → AreLengths (held ++ length_bytes n)
one_more held n h small = record {
  some = omega (arith, some_bytes n, length-append held (length_bytes n));
  whole = whole_both true held (length_bytes n) h ∙ one_whole n small;
}

abbrev IsWord : ℕ → Type 0
IsWord n = n < 2 ^ 32

filled_whole : (held lengths : List ℕ) → AreLengths held → All IsWord lengths → AllByRecursion AreLengths (filled held lengths)
filled_whole held [] h each = (h, tt)
filled_whole held (n ∷ lengths) h each =
    let small : n < 2 ^ 32 = All-head IsWord n lengths each in
    let later : All IsWord lengths = All-tail IsWord n lengths each in
    elim (cases_Bool (nat_le (length held + length (length_bytes n)) 65532)) [
      | inl t ↦ rw t (filled_whole (held ++ length_bytes n) lengths (one_more held n h.whole small) later)
      | inr f ↦ rw f (h, filled_whole (length_bytes n) lengths (record { some = some_bytes n; whole = one_whole n small }) later)
    ]

-- the first segment has the first length
begun_whole : (held : List ℕ) (n : ℕ) (lengths : List ℕ) → length held ≤ 1 → are_whole true held ≡ true → All IsWord (n ∷ lengths) → AllByRecursion AreLengths (filled held (n ∷ lengths))
begun_whole held n lengths few h each =
    let long : length (length_bytes n) ≡ length_size n = septets_long (length_size n) n in
    let most : size n ≤ 32 = size_le n in
    let fits : nat_le (length held + length (length_bytes n)) 65532 ≡ true = fit (length held + length (length_bytes n)) (omega (arith, few, long, most)) in
    rw fits (filled_whole (held ++ length_bytes n) lengths (one_more held n h (All-head IsWord n lengths each)) (All-tail IsWord n lengths each))
  where
    fit : (k : ℕ) → k ≤ 65532 → nat_le k 65532 ≡ true
    fit k h = grind (arith, nat_tests)

pub held_whole : (plt : Bool) (lengths : List ℕ) → length_total lengths < 2 ^ 32 → All AreLengths (held_by plt lengths)
held_whole true [] short = All-nil AreLengths
held_whole true (n ∷ lengths) short = All-from_recursion AreLengths (filled [] (n ∷ lengths)) (begun_whole [] n lengths (omega arith) refl (all_words (n ∷ lengths) short))
held_whole false lengths short = All-nil AreLengths
