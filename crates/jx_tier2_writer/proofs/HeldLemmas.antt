-- The lengths of a tile-part's packets fit at most 256 PLT segments, each of at most 65,532 bytes after its number.
use Rattle.std.proofs.Common.{◌≡◌, ◌<◌, ◌≤◌, ◌+◌, ◌*◌, ◌/◌, ◌%◌, ◌^◌, nat_le, ℕ, zero, suc, Bool, true, false, arith, List, [], ◌∷◌, ◌++◌, length, map, refl, sym, ap, subst, inl, inr, length-append, cond}
use Rattle.std.specs.List.{All, AllByRecursion}
use Rattle.std.proofs.lemmas.Bool.{cases_Bool, cases_lt, leb-true}
use Rattle.std.proofs.lemmas.Bool.Decides.{nat_tests}
use Rattle.std.proofs.lemmas.List.Elements.{All-cons, All-from_recursion, All-nil, All-append}
use Rattle.jx_marker.specs.declared.Segment.{Segment}
use Rattle.jx_marker.specs.Ranges.{AreBytes, InRange}
use Rattle.jx_packet_header.specs.Words.{size}
use Rattle.jx_packet_header.proofs.PutLemmas.{size_le, size_small}
use Rattle.jx_progression.specs.declared.names.PacketName.{PacketName}
use Rattle.jx_tier2_reader.specs.Written.{Packets, packet_bytes, bytes_from}
use Rattle.jx_tier2_writer.specs.Told.{length_total}
use Rattle.jx_tier2_writer.specs.Lengths.{length_size, septets, length_bytes, filled, numbered, length_segments}
use Rattle.jx_tier2_writer.specs.TileParts.{packet_length}
use Rattle.jx_tier2_writer.proofs.HeaderLemmas.{IsHeld, lengths_range, numbered_long}
use Rattle.jx_tier2_reader.proofs.FrontLemmas.{packet_size}

-- ---- one length
pub septets_long : (count n : ℕ) → length (septets count n) ≡ count
septets_long zero n = refl
septets_long (suc zero) n = refl
septets_long (suc (suc count)) n = ap suc (septets_long (suc count) n)

pub septets_bytes : (count n : ℕ) → AreBytes (septets count n)
septets_bytes zero n = All-nil (λ (byte : ℕ). byte < 256)
septets_bytes (suc zero) n = All-cons (λ (byte : ℕ). byte < 256) (n % 128) [] (omega arith) (All-nil (λ (byte : ℕ). byte < 256))
septets_bytes (suc (suc count)) n = high_byte (n / 128 ^ suc count) (septets (suc count) n) (septets_bytes (suc count) n)
  where
    high_byte : (k : ℕ) (bytes : List ℕ) → AreBytes bytes → AreBytes ((128 + k % 128) ∷ bytes)
    high_byte k bytes h = All-cons (λ (byte : ℕ). byte < 256) (128 + k % 128) bytes (omega arith) h

most_five : (n : ℕ) → length_size n ≤ 5
most_five n = let a : size n ≤ 32 = size_le n in omega (arith, a)

-- a length takes at most two bytes, and one more for each 2^14
few_bytes : (n : ℕ) → 16384 * length_size n ≤ 32768 + n
few_bytes n = elim (cases_lt n 16384) [
  | inl small ↦ let a : size n ≤ 14 = size_small n 14 small in omega (arith, a)
  | inr more ↦ elim (cases_lt n 2097152) [
    | inl middle ↦ let a : size n ≤ 21 = size_small n 21 middle in omega (arith, a, more)
    | inr large ↦ let a : length_size n ≤ 5 = most_five n in omega (arith, a, large)
  ]
]

-- ---- the segments' bytes
pub filled_fit : (held lengths : List ℕ) → length held ≤ 65532 → AreBytes held → AllByRecursion IsHeld (filled held lengths)
filled_fit held [] short each = (record { short = short; each = each }, tt)
filled_fit held (n ∷ lengths) short each = elim (cases_Bool (nat_le (length held + length (length_bytes n)) 65532)) [
  | inl t ↦
      let fits : length held + length (length_bytes n) ≤ 65532 = leb-true (length held + length (length_bytes n)) 65532 t in
      let both : length (held ++ length_bytes n) ≤ 65532 = omega (arith, fits, length-append held (length_bytes n)) in
      rw t (filled_fit (held ++ length_bytes n) lengths both (All-append (λ (byte : ℕ). byte < 256) held (length_bytes n) each (septets_bytes (length_size n) n)))
  | inr f ↦
      let long : length (length_bytes n) ≡ length_size n = septets_long (length_size n) n in
      let few : length (length_bytes n) ≤ 65532 = omega (arith, long, most_five n) in
      rw f (record { short = short; each = each }, filled_fit (length_bytes n) lengths few (septets_bytes (length_size n) n))
]

-- how many bytes lengths take
abbrev pub bytes_total : List ℕ → ℕ
bytes_total [] = 0
bytes_total (n ∷ lengths) = length_size n + bytes_total lengths

-- each segment but the last holds at least 65,528 bytes
filled_few : (held lengths : List ℕ) → length (filled held lengths) * 65528 ≤ 65528 + length held + bytes_total lengths
filled_few held [] = omega arith
filled_few held (n ∷ lengths) =
    let long : length (length_bytes n) ≡ length_size n = septets_long (length_size n) n in
    elim (cases_Bool (nat_le (length held + length (length_bytes n)) 65532)) [
      | inl t ↦
          let later : length (filled (held ++ length_bytes n) lengths) * 65528 ≤ 65528 + length (held ++ length_bytes n) + bytes_total lengths = filled_few (held ++ length_bytes n) lengths in
          rw t (one_more (length (filled (held ++ length_bytes n) lengths)) (length held) (length (length_bytes n)) (length (held ++ length_bytes n)) (length_size n) (bytes_total lengths) later (length-append held (length_bytes n)) long)
      | inr f ↦
          let later : length (filled (length_bytes n) lengths) * 65528 ≤ 65528 + length (length_bytes n) + bytes_total lengths = filled_few (length_bytes n) lengths in
          rw f (one_closed (length (filled (length_bytes n) lengths)) (length held) (length (length_bytes n)) (length_size n) (bytes_total lengths) later long (most_five n) (too_many (length held + length (length_bytes n)) f))
    ]
  where
    one_more : (count held bytes both size rest : ℕ) → count * 65528 ≤ 65528 + both + rest → both ≡ held + bytes → bytes ≡ size → count * 65528 ≤ 65528 + held + (size + rest)
    one_more count held bytes both size rest h e f = omega arith

    one_closed : (count held bytes size rest : ℕ) → count * 65528 ≤ 65528 + bytes + rest → bytes ≡ size → size ≤ 5 → 65532 < held + bytes → suc count * 65528 ≤ 65528 + held + (size + rest)
    one_closed count held bytes size rest h e small past = omega arith

    too_many : (n : ℕ) → nat_le n 65532 ≡ false → 65532 < n
    too_many n h = grind (arith, nat_tests)

all_few : (lengths : List ℕ) → 16384 * bytes_total lengths ≤ 32768 * length lengths + length_total lengths
all_few [] = omega arith
all_few (n ∷ lengths) = omega (arith, few_bytes n, all_few lengths)

few_segments : (lengths : List ℕ) → length lengths ≤ 2 ^ 22 → length_total lengths < 2 ^ 32 → length (filled [] lengths) ≤ 256
few_segments lengths count short = omega (arith, filled_few [] lengths, all_few lengths)

-- ---- the segments of a tile-part
abbrev pub held_of : List ℕ → List (List ℕ)
held_of [] = []
held_of (n ∷ lengths) = filled [] (n ∷ lengths)

abbrev pub held_by : Bool → List ℕ → List (List ℕ)
held_by true lengths = held_of lengths
held_by false lengths = []

pub segments_are : (plt : Bool) (lengths : List ℕ) → cond plt (length_segments lengths) [] ≡ numbered 0 (held_by plt lengths)
segments_are true [] = refl
segments_are true (n ∷ lengths) = refl
segments_are false lengths = refl

pub held_fit : (plt : Bool) (lengths : List ℕ) → AllByRecursion IsHeld (held_by plt lengths)
held_fit true [] = tt
held_fit true (n ∷ lengths) = filled_fit [] (n ∷ lengths) (omega arith) (All-nil (λ (byte : ℕ). byte < 256))
held_fit false lengths = tt

pub held_few : (plt : Bool) (lengths : List ℕ) → length lengths ≤ 2 ^ 22 → length_total lengths < 2 ^ 32 → length (held_by plt lengths) ≤ 256
held_few true [] count short = omega arith
held_few true (n ∷ lengths) count short = few_segments (n ∷ lengths) count short
held_few false lengths count short = omega arith

pub segments_few : (lengths : List ℕ) → length lengths ≤ 2 ^ 22 → length_total lengths < 2 ^ 32 → length (length_segments lengths) ≤ 256
segments_few lengths count short =
    let few : length (held_by true lengths) ≤ 256 = held_few true lengths count short in
    omega (arith, ap (λ (z : List Segment). length z) (segments_are true lengths), numbered_long 0 (held_by true lengths), few)

pub segments_range : (comps : ℕ) (lengths : List ℕ) → length lengths ≤ 2 ^ 22 → length_total lengths < 2 ^ 32 → All (InRange comps) (length_segments lengths)
segments_range comps lengths count short =
    let few : length (held_by true lengths) ≤ 256 = held_few true lengths count short in
    let P : List Segment → Type 0 = λ z. All (InRange comps) z in
    subst P (sym (segments_are true lengths)) (All-from_recursion (InRange comps) (numbered 0 (held_by true lengths)) (lengths_range comps 0 (held_by true lengths) (omega (arith, few)) (held_fit true lengths)))

-- ---- packets' lengths come to those of the data, whatever the packets' numbers are
pub packets_long : (ps : Packets) (number : ℕ) (names : List PacketName) → length_total (map (packet_length ps) names) ≡ length (bytes_from ps number names)
packets_long ps number [] = refl
packets_long ps number (p ∷ names) =
    omega (arith, length-append (packet_bytes number (ps.written p)) (bytes_from ps (number + 1) names), packet_size 0 number (ps.written p), packets_long ps (number + 1) names)
