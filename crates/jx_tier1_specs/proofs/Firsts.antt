-- The first bit that is left, or 1.
use Rattle.std.proofs.Common.{◌≡◌, ◌+◌, ◌-◌, ◌<◌, ◌≤◌, ◌^◌, ◌==◌, ℕ, suc, Bool, true, false, List, [], ◌∷◌, ◌++◌, length, refl, ap, arith, map, drop, zero, Bor, lit<, get_or, if◌then◌else◌}
use Rattle.std.proofs.lemmas.List.{drop_all}
use Rattle.std.proofs.lemmas.List.Elements.{All-cons, All-nil}
use Rattle.jx_tier1_specs.specs.Segments.{bytes_of}
use Rattle.jx_tier1_specs.specs.Reading.{first_segment}
use Rattle.jx_tier1_specs.specs.Short.{AreShort}
use Rattle.jx_coder_specs.specs.RawBits.{raw_looked, raw_looked_after, raw_width}
use Rattle.jx_raw.specs.RawReading.{first_or_one}

pub first_is : (bits : List Bool) → first_or_one bits ≡ get_or bits 0 true
first_is [] = refl
first_is (bit ∷ bits) = refl

pub looked_most : (before : ℕ) (segment : List ℕ) (n : ℕ) → raw_looked_after before segment n ≤ length segment
looked_most before [] n = omega arith
looked_most before (byte ∷ rest) n =
    let h = looked_most byte rest (n - raw_width before) in
    elim (n == 0) as (λ v. (if v then 0 else 1 + raw_looked_after byte rest (n - raw_width before)) ≤ suc (length rest)) [ true ↦ omega arith | false ↦ omega arith ]

-- no more bytes are looked at than there are
pub looked_short : (segment other : List ℕ) (n : ℕ) → segment ≡ other → length other < 2 ^ 32 → raw_looked segment n < 2 ^ 32
looked_short segment other n e h = let a = looked_most 0 segment n in let b = ap length e in omega arith

-- the first segment from a place on, and those after it
pub first_there : (segments : List (Bor (List ℕ))) (i : ℕ) (d : Bor (List ℕ)) → i < length segments
    → first_segment (map bytes_of (drop i segments)) ≡ (get_or segments i d).now
first_there [] i d h = absurd (omega arith)
first_there (s ∷ rest) zero d h = refl
first_there (s ∷ rest) (suc i) d h = first_there rest i d (omega arith)

pub rest_after : (segments : List (Bor (List ℕ))) (i : ℕ) → drop 1 (map bytes_of (drop i segments)) ≡ map bytes_of (drop (i + 1) segments)
rest_after [] zero = refl
rest_after [] (suc i) = let e : suc i + 1 ≡ suc (i + 1) = omega arith in rw e refl
rest_after (s ∷ rest) zero = refl
rest_after (s ∷ rest) (suc i) = let e : suc i + 1 ≡ suc (i + 1) = omega arith in rw e (rest_after rest i)

pub none_there : (segments : List (Bor (List ℕ))) (i : ℕ) → length segments ≤ i → map bytes_of (drop i segments) ≡ []
none_there segments i h = rw (drop_all i segments h) refl

pub short_first : (segments : List (List ℕ)) → AreShort segments → length (first_segment segments) < 2 ^ 32
short_first [] h = lit< tt
short_first (s ∷ rest) h = h 0 s (omega arith)

pub one_short : (s : List ℕ) → length s < 2 ^ 32 → AreShort ([] ++ s ∷ [])
one_short s h = All-cons (λ (t : List ℕ). length t < 2 ^ 32) s [] h (All-nil (λ (t : List ℕ). length t < 2 ^ 32))
