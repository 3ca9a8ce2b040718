-- The index is read as what it was made of, and leads to each tile-part of the file.
use Rattle.std.proofs.Common.{◌≡◌, ◌∙◌, ◌<◌, ◌≤◌, ◌+◌, ◌-◌, ◌*◌, ◌/◌, ◌^◌, ◌==◌, ℕ, zero, suc, true, false, arith, List, [], ◌∷◌, ◌++◌, length, map, take, drop, refl, sym, ap, subst, inl, inr, ◌⊎◌, append-nil, append_assoc, Some}
use Rattle.std.proofs.Math.Seq.{take-add, take-append_seam}
use Rattle.std.proofs.Math.ListN.{drop_of_length-le}
use Rattle.std.specs.List.{AllByRecursion, filter, flat_map, list_any, range_with_len, slice_get}
use Rattle.std.proofs.lemmas.Bool.{cases_lt, eq-eqb, ne_eqb, or_parts}
use Rattle.std.proofs.lemmas.List.{drop-drop}
use Rattle.std.proofs.lemmas.List.Elements.{All-from_recursion, filter-append, recursion_from_All}
use Rattle.std.proofs.lemmas.Option.{same_Some}
use Rattle.byteorder.specs.Endian.{big_bytes, big_from}
use Rattle.byteorder.specs.Numbers.{big_number-reads_back}
use Rattle.jx_base.specs.Joined.{joined}
use Rattle.jx_base.proofs.Joined.{joined_all}
use Rattle.jx_base.proofs.Lists.{some_none}
use Rattle.jx_marker.specs.declared.Segment.{Segment}
use Rattle.jx_marker.specs.declared.Segment.TheVariants as segment
use Rattle.jx_base.specs.declared.pieces.Block.{Block}
use Rattle.jx_progression.specs.declared.names.PacketName.{PacketName}
use Rattle.jx_codestream.specs.declared.Stream.{Stream}
use Rattle.jx_codestream.specs.Params.{header_of}
use Rattle.jx_codestream.specs.Spells.{TilePart, part_bytes}
use Rattle.jx_tier2_reader.specs.Written.{Packets, bytes_from}
use Rattle.jx_options.specs.declared.Marks.{Marks}
use Rattle.jx_tile_parts.specs.Groups.{groups_of}
use Rattle.jx_tier2_writer.specs.TileParts.{AreTilePartsOf, packet_length, packets_of, parts_with, tile_part, written_part_header}
use Rattle.jx_tier2_writer.proofs.MadeLemmas.{part_long}
use Rattle.jx_codestream.proofs.OneLemmas.{drop_on}
use Rattle.jx_plan.specs.Asides.{is_left_out}
use Rattle.jx_tier2_writer.specs.declared.index.PartLength.{PartLength}
use Rattle.jx_tier2_writer.specs.Index.{entries_at, entries_in, entries_told, entry_at, entry_bytes, entry_of, index_count, index_segment, index_segments, is_numbered, length_before, length_in, run_of}
use Rattle.jx_tier2_writer.proofs.IndexLemmas.{entry_long}
use Rattle.jx_tier2_writer.proofs.PlaceLemmas.{AllOf}
use Rattle.jx_tier2_writer.proofs.TurnLemmas.{AreOf}

-- ---- an entry
-- such as two and four bytes can tell
pub record IsSmall (e : PartLength) : Type 0 where
  pub tile : e.tile < 2 ^ 16
  pub long : e.length < 2 ^ 32

same_entry : (a b : PartLength) → a.tile ≡ b.tile → a.length ≡ b.length → a ≡ b
same_entry a b e0 e1 = rw (← e0, ← e1) refl

entry_reads : (e : PartLength) (rest : List ℕ) → IsSmall e → entry_at (entry_bytes e ++ rest) ≡ e
entry_reads e rest small =
    let tile : big_from 0 2 (entry_bytes e ++ rest) ≡ e.tile = big_number-reads_back 2 e.tile (big_bytes 4 e.length ++ rest) (omega (arith, small.tile)) in
    let long : big_from 2 4 (entry_bytes e ++ rest) ≡ e.length = big_number-reads_back 4 e.length rest (omega (arith, small.long)) in
    same_entry (entry_at (entry_bytes e ++ rest)) e tile long

entries_read : (entries : List PartLength) → AllByRecursion IsSmall entries → entries_at (length entries) (flat_map entry_bytes entries) ≡ entries
entries_read [] small = refl
entries_read (e ∷ entries) small =
    ap (λ (z : PartLength). z ∷ entries_at (length entries) (flat_map entry_bytes entries)) (entry_reads e (flat_map entry_bytes entries) small.0)
    ∙ ap (λ (z : List PartLength). e ∷ z) (entries_read entries small.1)

-- ---- a run of entries
take_small : (n : ℕ) (xs : List PartLength) → AllByRecursion IsSmall xs → AllByRecursion IsSmall (take n xs)
take_small zero xs small = tt
take_small (suc n) [] small = tt
take_small (suc n) (x ∷ xs) small = (small.0, take_small n xs small.1)

drop_small : (n : ℕ) (xs : List PartLength) → AllByRecursion IsSmall xs → AllByRecursion IsSmall (drop n xs)
drop_small zero xs small = small
drop_small (suc n) [] small = tt
drop_small (suc n) (x ∷ xs) small = drop_small n xs small.1

runs_joined : {X : Type 0} (size a n : ℕ) (xs : List X) → flat_map (λ (k : ℕ). take size (drop (size * k) xs)) (range_with_len a n) ≡ take (size * n) (drop (size * a) xs)
runs_joined size a zero xs = let e : size * 0 ≡ 0 = omega arith in rw e refl
runs_joined {X} size a (suc n) xs =
    let e : size * suc n ≡ size + size * n = grind arith in
    let f : size * (a + 1) ≡ size * a + size = grind arith in
    let rest : List X = drop (size * a) xs in
    let next : drop (size * (a + 1)) xs ≡ drop size rest = ap (λ (k : ℕ). drop k xs) f ∙ sym (drop-drop size (size * a) xs) in
    ap (λ (z : List X). take size rest ++ z) (runs_joined size (a + 1) n xs ∙ ap (λ (z : List X). take (size * n) z) next)
    ∙ sym (take-add size (size * n) rest)
    ∙ ap (λ (k : ℕ). take k rest) (sym e)

take_all : {X : Type 0} (n : ℕ) (xs : List X) → length xs ≤ n → take n xs ≡ xs
take_all zero [] few = refl
take_all zero (x ∷ xs) few = absurd (omega arith)
take_all (suc n) [] few = refl
take_all {X} (suc n) (x ∷ xs) few = ap (λ (z : List X). x ∷ z) (take_all n xs (omega arith))

-- ---- a segment
entries_count : (n : ℕ) → (suc (suc (6 * n)) - 2) / 6 ≡ n
entries_count n = omega arith

segment_reads : (entries : List PartLength) (k : ℕ) → AllByRecursion IsSmall entries → entries_in (index_segment entries k) ≡ run_of entries k
segment_reads entries k small =
    let run : List PartLength = run_of entries k in
    let count : (suc (suc (length (flat_map entry_bytes run))) - 2) / 6 ≡ length run = ap (λ (n : ℕ). (suc (suc n) - 2) / 6) (entry_long run) ∙ entries_count (length run) in
    ap (λ (n : ℕ). entries_at n (flat_map entry_bytes run)) count ∙ entries_read run (take_small 10921 (drop (10921 * k) entries) (drop_small (10921 * k) entries small))

-- ---- the segments of a number
module _ (entries : List PartLength) where
  numbered_none : (z a n : ℕ) → (z < a) ⊎ (a + n ≤ z) → filter (is_numbered z) (map (index_segment entries) (range_with_len a n)) ≡ []
  numbered_none z a zero past = refl
  numbered_none z a (suc n) past = let e : (a == z) ≡ false = ne_eqb a z (apart past) in rw e (numbered_none z (a + 1) n (later past))
    where
      apart : (z < a) ⊎ (a + suc n ≤ z) → a ≡ z → ⊥
      apart (inl lt) same = omega arith
      apart (inr le) same = omega arith

      later : (z < a) ⊎ (a + suc n ≤ z) → (z < a + 1) ⊎ (a + 1 + n ≤ z)
      later (inl lt) = inl (omega arith)
      later (inr le) = inr (omega arith)

  numbered_one : (z a n : ℕ) → a ≤ z → z < a + n → filter (is_numbered z) (map (index_segment entries) (range_with_len a n)) ≡ index_segment entries z ∷ []
  numbered_one z a zero from below = absurd (omega arith)
  numbered_one z a (suc n) from below = elim (cases_lt a z) [
    | inl less ↦
        let e : (a == z) ≡ false = ne_eqb a z (λ same. omega (arith, same, less)) in
        rw e (numbered_one z (a + 1) n (omega (arith, less)) (omega (arith, below)))
    | inr past ↦
        let same : a ≡ z = omega arith in
        let e : (a == z) ≡ true = eq-eqb a z same in
        rw e (ap (λ (k : ℕ). index_segment entries k ∷ filter (is_numbered z) (map (index_segment entries) (range_with_len (a + 1) n))) same
        ∙ ap (λ (ss : List Segment). index_segment entries z ∷ ss) (numbered_none z (a + 1) n (inl (omega (arith, same)))))
  ]

  -- each number tells its run, and those past the last tell nothing, as their runs
  told_of : (z : ℕ) → AllByRecursion IsSmall entries → flat_map entries_in (filter (is_numbered z) (index_segments entries)) ≡ run_of entries z
  told_of z small = elim (cases_lt z (index_count (length entries))) [
    | inl there ↦
        ap (λ (ss : List Segment). flat_map entries_in ss) (numbered_one z 0 (index_count (length entries)) (omega arith) (omega (arith, there)))
        ∙ append-nil (entries_in (index_segment entries z)) ∙ segment_reads entries z small
    | inr past ↦
        let none : drop (10921 * z) entries ≡ [] = drop_of_length-le entries (enough (length entries) z past) in
        ap (λ (ss : List Segment). flat_map entries_in ss) (numbered_none z 0 (index_count (length entries)) (inr (omega (arith, past))))
        ∙ sym (ap (λ (xs : List PartLength). take 10921 xs) none)
  ]
    where
      enough : (n k : ℕ) → (n + 10920) / 10921 ≤ k → n ≤ 10921 * k
      enough n k h = omega arith

-- ---- no TLM stands before the index
not_numbered : (z : ℕ) (s : Segment) → is_left_out s ≡ false → is_numbered z s ≡ false
not_numbered z segment.Soc none = refl
not_numbered z (segment.Siz siz) none = refl
not_numbered z (segment.Cod cod) none = refl
not_numbered z (segment.Coc comp shape) none = refl
not_numbered z (segment.Qcd quant) none = refl
not_numbered z (segment.Qcc comp quant) none = refl
not_numbered z (segment.Rgn comp shift) none = refl
not_numbered z (segment.Poc entries) none = refl
not_numbered z (segment.Crg bytes) none = refl
not_numbered z (segment.Com bytes) none = refl
not_numbered z (segment.Plt bytes) none = refl
not_numbered z (segment.Plm bytes) none = refl
not_numbered z (segment.Ppm index bytes) none = refl
not_numbered z (segment.Ppt index bytes) none = refl
not_numbered z (segment.Tlm bytes) none = absurd (cc)
not_numbered z (segment.Sot sot) none = refl
not_numbered z segment.Sod none = refl
not_numbered z segment.Eoc none = refl
not_numbered z (segment.Skipped code) none = refl

front_none : (z : ℕ) (front : List Segment) → list_any is_left_out front ≡ false → filter (is_numbered z) front ≡ []
front_none z [] none = refl
front_none z (s ∷ front) none =
    let both = or_parts (is_left_out s) (list_any is_left_out front) none in
    let here : is_numbered z s ≡ false = not_numbered z s both.0 in
    rw here (front_none z front both.1)

-- ---- the index
same_flat : {X : Type 0} (f h : ℕ → List X) (ns : List ℕ) → ((n : ℕ) → f n ≡ h n) → flat_map f ns ≡ flat_map h ns
same_flat f h [] same = refl
same_flat {X} f h (n ∷ ns) same = ap (λ (z : List X). z ++ flat_map f ns) (same n) ∙ ap (λ (z : List X). h n ++ z) (same_flat f h ns same)

pub index_told : (front : List Segment) (entries : List PartLength) → list_any is_left_out front ≡ false → AllByRecursion IsSmall entries → length entries ≤ 2795776
    → entries_told (front ++ index_segments entries) ≡ entries
index_told front entries none small few =
    let each : (z : ℕ) → flat_map entries_in (filter (is_numbered z) (front ++ index_segments entries)) ≡ run_of entries z = λ z.
    ap (λ (ss : List Segment). flat_map entries_in ss) (filter-append (is_numbered z) front (index_segments entries))
    ∙ ap (λ (ss : List Segment). flat_map entries_in (ss ++ filter (is_numbered z) (index_segments entries))) (front_none z front none)
    ∙ told_of entries z small in
    same_flat (λ (z : ℕ). flat_map entries_in (filter (is_numbered z) (front ++ index_segments entries))) (run_of entries) (range_with_len 0 256) each
    ∙ runs_joined 10921 0 256 entries
    ∙ take_all (10921 * 256) (drop (10921 * 0) entries) (omega (arith, few))

-- ---- the tile-parts
pub record IsTold (comps : ℕ) (p : TilePart) : Type 0 where
  pub tile : p.sot.tile < 2 ^ 16
  pub short : p.sot.psot < 2 ^ 32
  pub long : p.sot.psot ≡ length (part_bytes comps p)

told_parts : (comps t count part : ℕ) (ps : List TilePart) → t < 2 ^ 16 → AreOf comps t count part ps → AllByRecursion (IsTold comps) ps
told_parts comps t count part [] low are = tt
told_parts comps t count part (p ∷ ps) low are =
    (record { tile = omega (arith, are.0.tile); short = are.0.short; long = are.0.long }, told_parts comps t count (part + 1) ps low are.1)

pub all_told : (comps : ℕ) (parts : ℕ → List TilePart) (n : ℕ) → n < 2 ^ 16 → AllOf comps parts n → AllByRecursion (IsTold comps) (joined parts 0 n)
all_told comps parts n low all =
    recursion_from_All (IsTold comps) (joined parts 0 n)
    (joined_all (IsTold comps) parts n (λ t lt. All-from_recursion (IsTold comps) (parts t) (told_parts comps t (length (parts t)) 0 (parts t) (omega (arith, lt)) (all t lt))))

pub small_entries : (comps : ℕ) (ps : List TilePart) → AllByRecursion (IsTold comps) ps → AllByRecursion IsSmall (map entry_of ps)
small_entries comps [] told = tt
small_entries comps (p ∷ ps) told = (record { tile = told.0.tile; long = told.0.short }, small_entries comps ps told.1)

-- where one stands: behind all that stands before the first, and behind those before it
pub stands_at : (comps : ℕ) (b : List ℕ) (at : ℕ) (ps : List TilePart) (more : List ℕ) (i : ℕ) (p : TilePart) → AllByRecursion (IsTold comps) ps
    → drop at b ≡ flat_map (part_bytes comps) ps ++ more → slice_get ps i ≡ Some p
    → take p.sot.psot (drop (at + length_before i (map entry_of ps)) b) ≡ part_bytes comps p
stands_at comps b at [] more i p told there is = absurd (some_none p (sym is))
stands_at comps b at (q ∷ ps) more zero p told there is =
    let same : q ≡ p = same_Some q p is in
    let P : TilePart → Type 0 = λ z. take z.sot.psot (drop (at + 0) b) ≡ part_bytes comps z in
    let e : at + 0 ≡ at = omega arith in
    let split : drop at b ≡ part_bytes comps q ++ (flat_map (part_bytes comps) ps ++ more) = there ∙ append_assoc (part_bytes comps q) (flat_map (part_bytes comps) ps) more in
    subst P same
    (ap (λ (n : ℕ). take q.sot.psot (drop n b)) e ∙ ap (λ (z : List ℕ). take q.sot.psot z) split
    ∙ ap (λ (n : ℕ). take n (part_bytes comps q ++ (flat_map (part_bytes comps) ps ++ more))) told.0.long
    ∙ take-append_seam (part_bytes comps q) (flat_map (part_bytes comps) ps ++ more))
stands_at comps b at (q ∷ ps) more (suc i) p told there is =
    let split : drop at b ≡ part_bytes comps q ++ (flat_map (part_bytes comps) ps ++ more) = there ∙ append_assoc (part_bytes comps q) (flat_map (part_bytes comps) ps) more in
    let next : drop (at + q.sot.psot) b ≡ flat_map (part_bytes comps) ps ++ more = drop_on b at q.sot.psot (part_bytes comps q) (flat_map (part_bytes comps) ps ++ more) split (sym told.0.long) in
    let e : at + (q.sot.psot + length_before i (map entry_of ps)) ≡ at + q.sot.psot + length_before i (map entry_of ps) = omega arith in
    ap (λ (n : ℕ). take p.sot.psot (drop n b)) e ∙ stands_at comps b (at + q.sot.psot) ps more i p told.1 next is

-- ---- lengths are those of bytes
made_lengths : (m : Marks) (comps t : ℕ) (own : List Segment) (ps : Packets) (count part number : ℕ) (groups : List (List PacketName))
    → map entry_of (parts_with m comps t own ps part count number groups) ≡ map (length_in t) (map (part_bytes comps) (parts_with m comps t own ps part count number groups))
made_lengths m comps t own ps count part number [] = refl
made_lengths m comps t own ps count part number (names ∷ groups) =
    let header : List Segment = written_part_header m own part (map (packet_length ps) names) in
    let p : TilePart = tile_part comps t part count header (bytes_from ps number names) in
    let later : List TilePart = parts_with m comps t own ps (part + 1) count (number + length names) groups in
    let here : entry_of p ≡ length_in t (part_bytes comps p) = ap (λ (n : ℕ). let e : PartLength = record { tile = t; length = n } in e) (part_long comps t part count header (bytes_from ps number names)) in
    ap (λ (e : PartLength). e ∷ map entry_of later) here ∙ ap (λ (es : List PartLength). length_in t (part_bytes comps p) ∷ es) (made_lengths m comps t own ps count (part + 1) (number + length names) groups)

pub entries_long : (m : Marks) (s : Stream) (blocks : List Block) (t : ℕ) (parts : List TilePart) → AreTilePartsOf m s blocks t parts
    → map entry_of parts ≡ map (length_in t) (map (part_bytes (length s.siz.comps)) parts)
entries_long m s blocks t parts is =
    let groups : List (List PacketName) = groups_of m.parts is.names in
    let P : List TilePart → Type 0 = λ z. map entry_of z ≡ map (length_in t) (map (part_bytes (length s.siz.comps)) z) in
    subst P (sym is.are) (made_lengths m (length s.siz.comps) t (header_of s t) (packets_of m s t blocks) (length groups) 0 0 groups)
