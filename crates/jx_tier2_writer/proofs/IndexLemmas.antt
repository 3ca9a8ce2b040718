-- TLM segments behind a main header: nothing is found in them, so what the header says stays; and they are such as may stand there.
use Rattle.std.proofs.Common.{◌≡◌, ◌∙◌, ◌<◌, ◌≤◌, ◌+◌, ◌-◌, ◌*◌, ◌==◌, ◌||◌, ℕ, min, zero, suc, Bool, true, false, arith, List, [], ◌∷◌, ◌++◌, length, map, take, drop, refl, sym, ap, inl, inr, cond, length-append, append-nil}
use Rattle.std.specs.List.{AllByRecursion, filter, flat_map, range_with_len}
use Rattle.std.proofs.Math.Seq.{take-length}
use Rattle.std.proofs.lemmas.Grind.{flat_map-append}
use Rattle.std.proofs.lemmas.List.{length-drop, take_min}
use Rattle.std.proofs.lemmas.List.FromFn.{map-range_with_len_more}
use Rattle.std.proofs.lemmas.Bool.{cases_Bool}
use Rattle.std.proofs.lemmas.Bool.Decides.{nat_tests}
use Rattle.std.proofs.lemmas.List.Elements.{All-cons, All-nil}
use Rattle.std.specs.Int.{byte_at}
use Rattle.byteorder.specs.Endian.{big_bytes}
use Rattle.jx_marker.specs.declared.Segment.{Segment}
use Rattle.jx_marker.specs.declared.Segment.TheVariants as segment
use Rattle.jx_marker.specs.Ranges.{AreBytes, BytesInRange}
use Rattle.jx_marker.specs.Segments.{spelling}
use Rattle.jx_codestream.specs.declared.headers.HeaderKind.TheVariants.{Main}
use Rattle.jx_codestream.specs.First.{lacks_default}
use Rattle.jx_codestream.specs.Headers.{has_packed, has_slot, is_packed, slot_of}
use Rattle.jx_codestream.specs.Spells.{AreSegments, TilePart, all_bytes}
use Rattle.jx_codestream.specs.Tiles.{entries_joined, entries_of, in_slot}
use Rattle.jx_options.specs.declared.Marks.{Marks}
use Rattle.jx_plan.specs.Asides.{is_informational}
use Rattle.jx_tier2_writer.specs.declared.index.PartLength.{PartLength}
use Rattle.jx_tier2_writer.specs.Index.{STLM, entry_bytes, entry_of, index_count, index_of, index_segment, index_segments, run_of}

-- TLM segments with these bytes behind their lengths
abbrev pub tlms : List (List ℕ) → List Segment
tlms held = map segment.Tlm held

-- ---- a header with such behind it
not_this : (n : ℕ) → 0 < n → (0 == n) ≡ false
not_this n h = grind (arith, nat_tests)

pub tlm_slots : (slot : ℕ) (main : List Segment) (held : List (List ℕ)) → 0 < slot → in_slot slot (main ++ tlms held) ≡ in_slot slot main
tlm_slots slot [] [] some = refl
tlm_slots slot [] (bytes ∷ held) some = let e : (0 == slot) ≡ false = not_this slot some in rw e (tlm_slots slot [] held some)
tlm_slots slot (s ∷ main) held some = elim (cases_Bool (slot_of s == slot)) [
  | inl t ↦ rw t refl
  | inr f ↦ rw f (tlm_slots slot main held some)
]

tlm_has : (slot : ℕ) (main : List Segment) (held : List (List ℕ)) → 0 < slot → has_slot slot (main ++ tlms held) ≡ has_slot slot main
tlm_has slot [] [] some = refl
tlm_has slot [] (bytes ∷ held) some = let e : (0 == slot) ≡ false = not_this slot some in rw e (tlm_has slot [] held some)
tlm_has slot (s ∷ main) held some = elim (cases_Bool (slot_of s == slot)) [
  | inl t ↦ rw t refl
  | inr f ↦ rw f (tlm_has slot main held some)
]

pub tlm_defaults : (main : List Segment) (held : List (List ℕ)) → lacks_default (main ++ tlms held) ≡ lacks_default main
tlm_defaults main held = let cod = tlm_has 1 main held (omega arith) in let qcd = tlm_has 2 main held (omega arith) in rw (cod, qcd) refl

pub tlm_entries : (main : List Segment) (held : List (List ℕ)) → entries_joined (main ++ tlms held) ≡ entries_joined main
tlm_entries [] [] = refl
tlm_entries [] (bytes ∷ held) = tlm_entries [] held
tlm_entries (s ∷ main) held = ap (λ z. entries_of s ++ z) (tlm_entries main held)

pub tlm_packed : (main : List Segment) (held : List (List ℕ)) → has_packed (main ++ tlms held) ≡ has_packed main
tlm_packed [] [] = refl
tlm_packed [] (bytes ∷ held) = tlm_packed [] held
tlm_packed (s ∷ main) held = ap (λ (rest : Bool). is_packed s || rest) (tlm_packed main held)

pub tlm_informs : (main : List Segment) (held : List (List ℕ)) → filter is_informational (main ++ tlms held) ≡ filter is_informational main
tlm_informs [] [] = refl
tlm_informs [] (bytes ∷ held) = tlm_informs [] held
tlm_informs (s ∷ main) held = elim (cases_Bool (is_informational s)) [
  | inl t ↦ rw t (ap (λ (z : List Segment). s ∷ z) (tlm_informs main held))
  | inr f ↦ rw f (tlm_informs main held)
]

-- ---- TLM may stand in the main header
pub tlms_stand : (comps : ℕ) (before : List Segment) (held : List (List ℕ)) → AllByRecursion (BytesInRange 2) held → AreSegments Main comps before (tlms held)
tlms_stand comps before [] fit = tt
tlms_stand comps before (bytes ∷ held) fit =
    (record { range = fit.0; stands = refl; once_packed = refl; inside = refl; once = refl }, tlms_stand comps (before ++ segment.Tlm bytes ∷ []) held fit.1)

-- ---- the index as such segments
abbrev pub numbers_by : Bool → List PartLength → List ℕ
numbers_by true entries = range_with_len 0 (index_count (length entries))
numbers_by false entries = []

abbrev pub bytes_of : List PartLength → ℕ → List ℕ
bytes_of entries number = number ∷ STLM ∷ flat_map entry_bytes (run_of entries number)

abbrev pub held_in : Bool → List PartLength → List (List ℕ)
held_in tlm entries = map (bytes_of entries) (numbers_by tlm entries)

pub held_map : (entries : List PartLength) (numbers : List ℕ) → map (index_segment entries) numbers ≡ tlms (map (bytes_of entries) numbers)
held_map entries [] = refl
held_map entries (n ∷ numbers) = ap (λ (z : List Segment). index_segment entries n ∷ z) (held_map entries numbers)

index_by : (tlm : Bool) (entries : List PartLength) → cond tlm (index_segments entries) [] ≡ tlms (held_in tlm entries)
index_by true entries = held_map entries (range_with_len 0 (index_count (length entries)))
index_by false entries = refl

abbrev pub index_held : Marks → List TilePart → List (List ℕ)
index_held m parts = held_in m.tlm (map entry_of parts)

pub index_is : (m : Marks) (parts : List TilePart) → index_of m parts ≡ tlms (index_held m parts)
index_is m parts = index_by m.tlm (map entry_of parts)

-- ---- and each is in its range
pub entry_long : (entries : List PartLength) → length (flat_map entry_bytes entries) ≡ 6 * length entries
entry_long [] = refl
entry_long (e ∷ entries) = omega (arith, length-append (entry_bytes e) (flat_map entry_bytes entries), entry_long entries)

low_byte : (i n : ℕ) → byte_at i n < 256
low_byte zero n = omega arith
low_byte (suc i) n = omega arith

big_each : (k n : ℕ) (rest : List ℕ) → AreBytes rest → AreBytes (big_bytes k n ++ rest)
big_each zero n rest each = each
big_each (suc k) n rest each = All-cons (λ (byte : ℕ). byte < 256) (byte_at k n) (big_bytes k n ++ rest) (low_byte k n) (big_each k n rest each)

entry_each : (e : PartLength) (rest : List ℕ) → AreBytes rest → AreBytes (entry_bytes e ++ rest)
entry_each e rest each = big_each 2 e.tile (big_bytes 4 e.length ++ rest) (big_each 4 e.length rest each)

entries_each : (entries : List PartLength) → AreBytes (flat_map entry_bytes entries)
entries_each [] = All-nil (λ (byte : ℕ). byte < 256)
entries_each (e ∷ entries) = entry_each e (flat_map entry_bytes entries) (entries_each entries)

pub run_few : {X : Type 0} (n : ℕ) (xs : List X) → length (take n xs) ≤ n
run_few zero xs = omega arith
run_few (suc n) [] = omega arith
run_few (suc n) (x ∷ xs) = omega (arith, run_few n xs)

bytes_range : (entries : List PartLength) (number : ℕ) → number < 256 → BytesInRange 2 (bytes_of entries number)
bytes_range entries number small =
    let run : List PartLength = run_of entries number in
    let few : length run ≤ 10921 = run_few 10921 (drop (10921 * number) entries) in
    let A : (n : ℕ) (xs : List ℕ) → n < 256 → AreBytes xs → AreBytes (n ∷ xs) = λ n xs lt all. All-cons (λ (byte : ℕ). byte < 256) n xs lt all in
    record {
      some = omega arith;
      count = omega (arith, entry_long run, few);
      each = A number (STLM ∷ flat_map entry_bytes run) small (A STLM (flat_map entry_bytes run) (omega arith) (entries_each run));
    }

numbered_range : (entries : List PartLength) (a n : ℕ) → a + n ≤ 256 → AllByRecursion (BytesInRange 2) (map (bytes_of entries) (range_with_len a n))
numbered_range entries a zero few = tt
numbered_range entries a (suc n) few = (bytes_range entries a (omega arith), numbered_range entries (a + 1) n (omega arith))

few_numbers : (n : ℕ) → n ≤ 2795776 → index_count n ≤ 256
few_numbers n few = omega arith

held_range : (tlm : Bool) (entries : List PartLength) → (tlm ≡ true → length entries ≤ 2795776) → AllByRecursion (BytesInRange 2) (held_in tlm entries)
held_range true entries few = numbered_range entries 0 (index_count (length entries)) (omega (arith, few_numbers (length entries) (few refl)))
held_range false entries few = tt

pub index_stands : (m : Marks) (comps : ℕ) (before : List Segment) (parts : List TilePart) → (m.tlm ≡ true → length (map entry_of parts) ≤ 2795776)
    → AreSegments Main comps before (tlms (index_held m parts))
index_stands m comps before parts few = tlms_stand comps before (index_held m parts) (held_range m.tlm (map entry_of parts) few)

-- ---- the bytes
pub run_taken : {X : Type 0} (most k a : ℕ) (xs : List X) → k ≡ min (length (take (length xs - a) (drop a xs))) most → take k (take (length xs - a) (drop a xs)) ≡ take most (drop a xs)
run_taken {X} most k a xs is =
    let rest : List X = drop a xs in
    let whole : take (length xs - a) rest ≡ rest = ap (λ (n : ℕ). take n rest) (sym (length-drop a xs)) ∙ take-length rest in
    let few : k ≡ min most (length rest) = omega (arith, is, ap (λ (z : List X). length z) whole) in
    ap (λ (z : List X). take k z) whole ∙ ap (λ (n : ℕ). take n rest) few ∙ take_min most rest

pub segment_next : (entries : List PartLength) (n : ℕ) → all_bytes 1 (map (index_segment entries) (range_with_len 0 (n + 1)))
    ≡ all_bytes 1 (map (index_segment entries) (range_with_len 0 n)) ++ spelling 1 (index_segment entries n)
segment_next entries n =
    ap (λ (z : List Segment). all_bytes 1 z) (map-range_with_len_more (index_segment entries) 0 n n (omega arith))
    ∙ flat_map-append (spelling 1) (map (index_segment entries) (range_with_len 0 n)) (index_segment entries n ∷ [])
    ∙ ap (λ (z : List ℕ). all_bytes 1 (map (index_segment entries) (range_with_len 0 n)) ++ z) (append-nil (spelling 1 (index_segment entries n)))

-- in a picture of any number of components
pub spelled_in : (comps : ℕ) (entries : List PartLength) (numbers : List ℕ) → all_bytes 1 (map (index_segment entries) numbers) ≡ all_bytes comps (map (index_segment entries) numbers)
spelled_in comps entries [] = refl
spelled_in comps entries (n ∷ numbers) = ap (λ (z : List ℕ). spelling 1 (index_segment entries n) ++ z) (spelled_in comps entries numbers)
