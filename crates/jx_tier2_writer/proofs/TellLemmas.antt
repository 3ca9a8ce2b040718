-- What PLT segments tell: the bytes of lengths are read as these lengths.
use Rattle.std.proofs.Common.{◌≡◌, ◌∙◌, ◌<◌, ◌≤◌, ◌+◌, ◌-◌, ◌*◌, ◌/◌, ◌%◌, ◌^◌, nat_lt, nat_le, ℕ, zero, suc, Bool, true, false, arith, List, [], ◌∷◌, ◌++◌, length, refl, ap, subst, inl, inr, append_assoc}
use Rattle.std.specs.List.{All, filter, flat_map}
use Rattle.std.proofs.lemmas.Bool.{cases_Bool, or_parts}
use Rattle.std.proofs.lemmas.Bool.Decides.{nat_tests}
use Rattle.std.proofs.lemmas.List.Elements.{All-cons, All-head, All-nil, All-tail, filter-append}
use Rattle.std.proofs.Math.Arith.{mod-mul}
use Rattle.std.proofs.lemmas.Nat.{mod-mul-add}
use Rattle.jx_marker.specs.declared.Segment.{Segment}
use Rattle.jx_marker.specs.declared.Segment.TheVariants as segment
use Rattle.jx_packet_header.specs.Words.{size}
use Rattle.jx_packet_header.proofs.PutLemmas.{size_fits, size_le}
use Rattle.jx_tier2_writer.specs.Told.{flat, has_lengths, length_total, lengths_from}
use Rattle.jx_tier2_writer.specs.Lengths.{filled, length_bytes, length_size, numbered, septets}
use Rattle.jx_tier2_writer.proofs.HeldLemmas.{held_by}
use Rattle.jx_plan.specs.Asides.{is_plt}

-- ---- one length
power_some : (k : ℕ) → 0 < 128 ^ k
power_some zero = omega arith
power_some (suc k) = omega (arith, power_some k)

low_byte : (value byte : ℕ) (bytes : List ℕ) → byte < 128 → lengths_from value (byte ∷ bytes) ≡ (value * 128 + byte) ∷ lengths_from 0 bytes
low_byte value byte bytes h = let e : nat_lt byte 128 ≡ true = is_low byte h in rw e refl
  where
    is_low : (n : ℕ) → n < 128 → nat_lt n 128 ≡ true
    is_low n h = grind (arith, nat_tests)

high_byte : (value byte : ℕ) (bytes : List ℕ) → lengths_from value ((128 + byte) ∷ bytes) ≡ lengths_from (value * 128 + byte) bytes
high_byte value byte bytes =
    let e : nat_lt (128 + byte) 128 ≡ false = is_high byte in
    let same : 128 + byte - 128 ≡ byte = omega arith in
    rw (e, same) refl
  where
    is_high : (n : ℕ) → nat_lt (128 + n) 128 ≡ false
    is_high n = grind (arith, nat_tests)

septets_told : (count value n : ℕ) (rest : List ℕ) → lengths_from value (septets (suc count) n ++ rest) ≡ (value * 128 ^ suc count + n % 128 ^ suc count) ∷ lengths_from 0 rest
septets_told zero value n rest = low_byte value (n % 128) rest (omega arith)
septets_told (suc count) value n rest =
    let k : ℕ = 128 ^ suc count in
    let later = septets_told count (value * 128 + n / k % 128) n rest in
    let split : n % (128 * k) ≡ (n / k % 128) * k + n % k = mod-mul n (omega arith) (power_some (suc count)) in
    high_byte value (n / k % 128) (septets (suc count) n ++ rest) ∙ later
    ∙ ap (λ (x : ℕ). x ∷ lengths_from 0 rest) (regrouped value (n / k % 128) k (n % k) (n % (128 * k)) split)
    ∙ ap (λ (x : ℕ). (value * x + n % x) ∷ lengths_from 0 rest) (next_power (suc count))
  where
    regrouped : (value digit k low all : ℕ) → all ≡ digit * k + low → (value * 128 + digit) * k + low ≡ value * (128 * k) + all
    regrouped value digit k low all e = grind arith

    next_power : (k : ℕ) → 128 * 128 ^ k ≡ 128 ^ suc k
    next_power k = omega arith

low_power : (k n : ℕ) → k ≤ 5 → n < 2 ^ (7 * k) → n < 128 ^ k
low_power zero n h lt = lt
low_power (suc zero) n h lt = lt
low_power (suc (suc zero)) n h lt = lt
low_power (suc (suc (suc zero))) n h lt = lt
low_power (suc (suc (suc (suc zero)))) n h lt = lt
low_power (suc (suc (suc (suc (suc zero))))) n h lt = lt
low_power (suc (suc (suc (suc (suc (suc k)))))) n h lt = absurd (omega arith)

length_told : (n : ℕ) (rest : List ℕ) → n < 2 ^ 32 → lengths_from 0 (length_bytes n ++ rest) ≡ n ∷ lengths_from 0 rest
length_told n rest small =
    let few : size n ≤ 32 = size_le n in
    let most : length_size n ≤ 5 = omega arith in
    let some : size n ≤ 7 * length_size n = omega arith in
    let low : n < 128 ^ length_size n = low_power (length_size n) n most (size_fits n (7 * length_size n) small some) in
    let first : length_size n ≡ suc (length_size n - 1) = omega arith in
    told_by (length_size n) (length_size n - 1) n rest first low
  where
    told_by : (k count n : ℕ) (rest : List ℕ) → k ≡ suc count → n < 128 ^ k → lengths_from 0 (septets k n ++ rest) ≡ n ∷ lengths_from 0 rest
    told_by k count n rest e low =
        let lower : n < 128 ^ suc count = subst (λ (i : ℕ). n < 128 ^ i) e low in
        let whole : 0 * 128 ^ suc count + n % 128 ^ suc count ≡ n = omega (arith, mod_low n (128 ^ suc count) lower) in
        ap (λ (i : ℕ). lengths_from 0 (septets i n ++ rest)) e ∙ septets_told count 0 n rest ∙ ap (λ (x : ℕ). x ∷ lengths_from 0 rest) whole
      where
        mod_low : (a b : ℕ) → a < b → a % b ≡ a
        mod_low a b h = let same : a ≡ 0 * b + a = omega arith in ap (λ (x : ℕ). x % b) same ∙ mod-mul-add 0 b a h

-- ---- many
pub all_told : (lengths : List ℕ) → All (λ (n : ℕ). n < 2 ^ 32) lengths → lengths_from 0 (flat_map length_bytes lengths) ≡ lengths
all_told [] h = refl
all_told (n ∷ lengths) h =
    length_told n (flat_map length_bytes lengths) (All-head (λ (n : ℕ). n < 2 ^ 32) n lengths h)
    ∙ ap (λ (z : List ℕ). n ∷ z) (all_told lengths (All-tail (λ (n : ℕ). n < 2 ^ 32) n lengths h))

pub all_words : (lengths : List ℕ) → length_total lengths < 2 ^ 32 → All (λ (n : ℕ). n < 2 ^ 32) lengths
all_words [] h = All-nil (λ (n : ℕ). n < 2 ^ 32)
all_words (n ∷ lengths) h = All-cons (λ (n : ℕ). n < 2 ^ 32) n lengths (omega arith) (all_words lengths (omega arith))

-- however they are cut into segments
filled_flat : (held lengths : List ℕ) → flat (filled held lengths) ≡ held ++ flat_map length_bytes lengths
filled_flat held [] = refl
filled_flat held (n ∷ lengths) = elim (cases_Bool (nat_le (length held + length (length_bytes n)) 65532)) [
  | inl t ↦ rw t (filled_flat (held ++ length_bytes n) lengths ∙ append_assoc held (length_bytes n) (flat_map length_bytes lengths))
  | inr f ↦ rw f (ap (λ (z : List ℕ). held ++ z) (filled_flat (length_bytes n) lengths))
]

pub held_told : (plt : Bool) (lengths : List ℕ) → length_total lengths < 2 ^ 32 → plt ≡ true → lengths_from 0 (flat (held_by plt lengths)) ≡ lengths
held_told true [] h asked = refl
held_told true (n ∷ lengths) h asked = ap (λ (z : List ℕ). lengths_from 0 z) (filled_flat [] (n ∷ lengths)) ∙ all_told (n ∷ lengths) (all_words (n ∷ lengths) h)
held_told false lengths h asked = absurd (cc)

pub held_none : (plt : Bool) (lengths : List ℕ) → plt ≡ false → held_by plt lengths ≡ []
held_none true lengths asked = absurd (cc)
held_none false lengths asked = refl

-- ---- the PLT segments of a header
lengths_kept : (number : ℕ) (held : List (List ℕ)) → filter is_plt (numbered number held) ≡ numbered number held
lengths_kept number [] = refl
lengths_kept number (bytes ∷ held) = ap (λ (z : List Segment). segment.Plt (number ∷ bytes) ∷ z) (lengths_kept (number + 1) held)

none_kept : (ss : List Segment) → has_lengths ss ≡ false → filter is_plt ss ≡ []
none_kept [] h = refl
none_kept (s ∷ ss) h = let both = or_parts (is_plt s) (has_lengths ss) h in rw both.0 (none_kept ss both.1)

pub lengths_found : (own : List Segment) (held : List (List ℕ)) → has_lengths own ≡ false → filter is_plt (own ++ numbered 0 held) ≡ numbered 0 held
lengths_found own held none =
    filter-append is_plt own (numbered 0 held) ∙ ap (λ (z : List Segment). z ++ filter is_plt (numbered 0 held)) (none_kept own none) ∙ lengths_kept 0 held
