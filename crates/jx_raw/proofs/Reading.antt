-- Lemmas on the reader's registers.
use Rattle.std.proofs.Common.{◌≡◌, ◌<◌, ◌≤◌, ◌+◌, ◌-◌, ◌/◌, ◌%◌, ◌^◌, ℕ, zero, suc, false, List, [], ◌∷◌, length, get_or, refl, ap, add-one, arith, eqb, bit_and, length-append}
use Rattle.std.proofs.lemmas.Bool.Decides.{nat_tests}
use Rattle.std.proofs.lemmas.Nat.{and_mask}
use Rattle.std.proofs.lemmas.List.{drop_more}
use Rattle.jx_coder_specs.specs.RawBits.{raw_width, raw_bits_after, bits_of, raw_looked_after}
use Rattle.jx_raw.specs.RawReading.{IsReading, IsAt, bits_left, first_or_one}

pub lowest : (n : ℕ) → bit_and n 1 ≡ n % 2
lowest n = and_mask n 1

pub length-bits_of : (width n : ℕ) → length (bits_of width n) ≡ width
length-bits_of zero n = refl
length-bits_of (suc width) n = ap suc (length-bits_of width n)

pub first_left : (bytes : List ℕ) (place current left : ℕ) → 0 < left → eqb (bit_and (current / 2 ^ (left - 1)) 1) 1 ≡ first_or_one (bits_left bytes place current left)
first_left bytes place current zero some = absurd (omega arith)
first_left bytes place current (suc left) some =
    let e : suc left - 1 ≡ left = omega arith in
    rw (e, lowest (current / 2 ^ left)) refl

pub IsAt-step : (before : ℕ) (bytes : List ℕ) (place current left : ℕ) → 0 < left → IsAt before bytes place current left → IsAt before bytes place current (left - 1)
IsAt-step before bytes zero current left some h = absurd (omega arith)
IsAt-step before [] (suc place) current left some h = h
IsAt-step before (byte ∷ rest) (suc zero) current left some h = (h.0, omega arith)
IsAt-step before (byte ∷ rest) (suc (suc place)) current left some h = IsAt-step byte rest (suc place) current left some h

pub next_left : (bytes : List ℕ) (place current : ℕ) → place < length bytes → bits_left bytes place current 0 ≡ bits_left bytes (place + 1) (get_or bytes place 0) (raw_width current)
next_left bytes place current inside = rw (drop_more bytes place 0 inside) refl

pub room : (before : ℕ) → (7 ≤ raw_width before) × (raw_width before ≤ 8)
room before = (grind (arith, nat_tests), grind (arith, nat_tests))

IsAt-suc : (before : ℕ) (bytes : List ℕ) (place current : ℕ) → place < length bytes → IsAt before bytes place current 0 → IsAt before bytes (suc place) (get_or bytes place 0) (raw_width current - 1)
IsAt-suc before [] place current inside h = absurd (omega arith)
IsAt-suc before (byte ∷ rest) zero current inside h = (refl, rw h.0 (grind (arith, nat_tests)))
IsAt-suc before (byte ∷ rest) (suc zero) current inside h = IsAt-suc byte rest zero current (omega arith) (h.0, refl)
IsAt-suc before (byte ∷ rest) (suc (suc place)) current inside h = IsAt-suc byte rest (suc place) current (omega arith) h

pub IsAt-next : (bytes : List ℕ) (place current : ℕ) → place < length bytes → IsAt 0 bytes place current 0 → IsAt 0 bytes (place + 1) (get_or bytes place 0) (raw_width current - 1)
IsAt-next bytes place current inside h = rw add-one (IsAt-suc 0 bytes place current inside h)

pub looked_none : (before : ℕ) (bytes : List ℕ) → raw_looked_after before bytes 0 ≡ 0
looked_none before [] = refl
looked_none before (byte ∷ rest) = refl

fewer : (before : ℕ) (bytes : List ℕ) (place current left : ℕ) → IsAt before bytes place current left → 0 < place → (length (bits_left bytes place current left) < length (raw_bits_after before bytes))
fewer before bytes zero current left h some = absurd (omega arith)
fewer before [] (suc place) current left h some = absurd h
fewer before (byte ∷ rest) (suc zero) current left h some =
    rw (h.0) (rw (length-append, length-append, length-bits_of, length-bits_of) (omega arith))
fewer before (byte ∷ rest) (suc (suc place)) current left h some =
    let less : length (bits_left rest (suc place) current left) < length (raw_bits_after byte rest) = fewer byte rest (suc place) current left h (omega arith) in
    rw (length-append (bits_of (raw_width before) byte) (raw_bits_after byte rest)) (omega arith)

seen : (before : ℕ) (bytes : List ℕ) (place current left n : ℕ) → IsAt before bytes place current left → n + length (bits_left bytes place current left) ≡ length (raw_bits_after before bytes) → raw_looked_after before bytes n ≡ place
seen before bytes zero current left n h all =
    let same : length (bits_left bytes zero current left) ≡ length (raw_bits_after before bytes) = rw (h.0, h.1) refl in
    let none : n ≡ 0 = omega arith in
    rw none (looked_none before bytes)
seen before [] (suc place) current left n h all = absurd h
seen before (byte ∷ rest) (suc zero) current left n h all =
    let here : length (bits_left (byte ∷ rest) (suc zero) current left) ≡ left + length (raw_bits_after byte rest) =
    rw h.0 (rw length-append (rw length-bits_of refl)) in
    let whole : length (raw_bits_after before (byte ∷ rest)) ≡ raw_width before + length (raw_bits_after byte rest) =
    rw length-append (rw length-bits_of refl) in
    let some : eqb n 0 ≡ false = grind (arith, nat_tests) in
    let no_more : n - raw_width before ≡ 0 = omega arith in
    rw (some, no_more, looked_none byte rest) refl
seen before (byte ∷ rest) (suc (suc place)) current left n h all =
    let less : length (bits_left rest (suc place) current left) < length (raw_bits_after byte rest) = fewer byte rest (suc place) current left h (omega arith) in
    let whole : length (raw_bits_after before (byte ∷ rest)) ≡ raw_width before + length (raw_bits_after byte rest) =
    rw length-append (rw length-bits_of refl) in
    let some : eqb n 0 ≡ false = grind (arith, nat_tests) in
    let more : raw_looked_after byte rest (n - raw_width before) ≡ suc place = seen byte rest (suc place) current left (n - raw_width before) h (omega arith) in
    rw (some, more) (omega arith)

at_most : (before : ℕ) (bytes : List ℕ) (place current left : ℕ) → IsAt before bytes place current left → length (bits_left bytes place current left) ≤ length (raw_bits_after before bytes)
at_most before bytes zero current left h = rw (h.0, h.1) (omega arith)
at_most before bytes (suc place) current left h = let less = fewer before bytes (suc place) current left h (omega arith) in omega arith

pub looked_at : (bytes : List ℕ) (place current left : ℕ) → IsAt 0 bytes place current left → raw_looked_after 0 bytes (length (raw_bits_after 0 bytes) - length (bits_left bytes place current left)) ≡ place
looked_at bytes place current left h =
    let most = at_most 0 bytes place current left h in
    seen 0 bytes place current left _ h (omega arith)

pub step : (bytes : List ℕ) (place current left : ℕ) → 0 < left → IsReading bytes place current left → IsReading bytes place current (left - 1)
step bytes place current left some h = record { here = IsAt-step 0 bytes place current left some h.here; within = h.within; room = omega arith }

pub next : (bytes : List ℕ) (place current left : ℕ) → left ≡ 0 → place < length bytes → IsReading bytes place current left → IsReading bytes (place + 1) (get_or bytes place 0) (raw_width current - 1)
next bytes place current left none inside h =
    let here : IsAt 0 bytes place current 0 = rw none at h.here in
    let w = room current in
    record { here = IsAt-next bytes place current inside here; within = omega arith; room = omega arith }
