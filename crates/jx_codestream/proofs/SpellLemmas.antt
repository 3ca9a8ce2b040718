-- What was walked over is spelled by the bytes.
use Rattle.std.proofs.Common.{◌≡◌, ◌∙◌, ◌<◌, ◌≤◌, ◌+◌, ◌-◌, ◌==◌, ◌||◌, ◌&&◌, ℕ, zero, suc, Bool, true, false, not, nat_lt, nat_le, arith, List, [], ◌∷◌, ◌++◌, length, drop, take, get_or, refl, sym, ap, subst, Option, Some, None, cond, ◌⊎◌, inl, inr, add-zero}
use Rattle.std.specs.List.{flat_map}
use Rattle.std.specs.Option.{option_or, is_some}
use Rattle.std.proofs.lemmas.Bool.Decides.{nat_tests}
use Rattle.std.proofs.lemmas.List.{append-nil, append_assoc, drop-drop, length-append, length-drop, length-take, take-append-drop, get_or-drop, drop_all}
use Rattle.std.proofs.lemmas.List.Elements.{All-drop}
use Rattle.jx_marker.specs.Codes.{SOT, EOC}
use Rattle.jx_marker.specs.declared.Segment.{Segment}
use Rattle.jx_marker.specs.declared.Segment.TheVariants as segment
use Rattle.jx_marker.specs.declared.Sot.{Sot}
use Rattle.jx_marker.specs.Segments.{spelling, segment_at, size_at}
use Rattle.jx_marker.specs.Rules.{first_broken}
use Rattle.jx_marker.specs.Ranges.{AreBytes, SotInRange}
use Rattle.jx_marker.specs.Laws.{BeginsWith}
use Rattle.jx_marker.proofs.SpelledLemmas.{segment_is_read}
use Rattle.jx_marker.proofs.ReadLemmas.{segment_is_spelled}
use Rattle.jx_marker.specs.RuleNumbers.{MISPLACED, NO_TILE, PACKED_HEADERS, PART_END, PART_LENGTH, PART_NUMBER, TWICE}
use Rattle.jx_codestream.specs.declared.faults.StreamFault.{StreamFault}
use Rattle.jx_codestream.specs.declared.headers.HeaderKind.{HeaderKind}
use Rattle.jx_codestream.specs.declared.headers.HeaderKind.TheVariants.{First, Later}
use Rattle.jx_codestream.specs.declared.headers.Header.{Header}
use Rattle.jx_codestream.specs.declared.parts.PlacedPart.{PlacedPart}
use Rattle.jx_codestream.specs.declared.Body.{Body}
use Rattle.jx_codestream.specs.Faults.{broken, rule_at}
use Rattle.jx_codestream.specs.Headers.{stands_in, ends_header, is_second, is_packed_twice, early_fault, segment_fault, stops, longest, header_at, header_fault, without_ppt}
use Rattle.jx_codestream.specs.PackedHeaders.{heads_in}
use Rattle.jx_codestream.specs.Parts.{marker_at, sot_in, after_sot, kind_of, comes_out_of_turn, start_fault, sot_fault, sod_fault, has_wrong_length, end_of, part_header, body_of, part_at, part_fault, fault_after, end_of_part, parts_stop, Parts, longest_parts, parts_from, parts_fault}
use Rattle.jx_codestream.specs.Spells.{TilePart, all_bytes, head_bytes, part_bytes, part_of, placed, AreSegments, IsTilePart, AreTileParts}
use Rattle.jx_codestream.proofs.FaultLemmas.{none_first, none_later, broken_none, rule_none}
use Rattle.jx_codestream.proofs.HeaderLemmas.{longest_stops, longest_goes, stops_past, size_is_two}
use Rattle.jx_codestream.proofs.PartLemmas.{sot_stands, sod_within, parts_stopped, parts_going, stop_at_eoc, stop_past, goes_clear, part_rises, none_is}
use Rattle.std.proofs.lemmas.Bool.{or_parts, not-false, leb-false, ltb-false, and_parts, eqb-true, cases_Bool, eq-eqb}

-- a place of a header at which nothing is violated

pub record IsClear (kind : HeaderKind) (comps : ℕ) (b : List ℕ) (before : List Segment) (at : ℕ) : Type 0 where
  pub rules : first_broken comps (drop at b) ≡ None
  pub alone : is_packed_twice kind (segment_at comps (drop at b)) ≡ false
  pub stands : stands_in kind (segment_at comps (drop at b)) ≡ true
  pub once : is_second before (segment_at comps (drop at b)) ≡ false

pub is_clear : (kind : HeaderKind) (comps : ℕ) (b : List ℕ) (before : List Segment) (at : ℕ) → segment_fault kind comps b before at ≡ None → IsClear kind comps b before at
unfolding segment_fault early_fault
is_clear kind comps b before at h =
    let s = segment_at comps (drop at b) in
    let rules = rule_at at (first_broken comps (drop at b)) in
    let packed = broken PACKED_HEADERS at (is_packed_twice kind s) in
    let misplaced = broken MISPLACED at (not (stands_in kind s)) in
    let early = none_first (option_or rules (option_or packed misplaced)) (broken TWICE at (is_second before s)) h in
    let second = none_later (option_or rules (option_or packed misplaced)) (broken TWICE at (is_second before s)) h in
    let later = none_later rules (option_or packed misplaced) early in
    record {
      rules = rule_none at (first_broken comps (drop at b)) (none_first rules (option_or packed misplaced) early);
      alone = broken_none PACKED_HEADERS at (is_packed_twice kind s) (none_first packed misplaced later);
      stands = not-false (stands_in kind s) (broken_none MISPLACED at (not (stands_in kind s)) (none_later packed misplaced later));
      once = broken_none TWICE at (is_second before s) second;
    }

going : (kind : HeaderKind) (comps : ℕ) (b : List ℕ) (before : List Segment) (at : ℕ) → stops kind comps b before at ≡ false
    → (segment_fault kind comps b before at ≡ None) × (ends_header (segment_at comps (drop at b)) ≡ false)
unfolding stops
going kind comps b before at h =
    let p = or_parts (is_some (segment_fault kind comps b before at)) (ends_header (segment_at comps (drop at b))) h in
    (none_is (segment_fault kind comps b before at) p.0, p.1)

pub begins_at : (comps : ℕ) (b : List ℕ) (at : ℕ) → AreBytes b → first_broken comps (drop at b) ≡ None
    → BeginsWith comps (drop at b) (segment_at comps (drop at b)) (drop (size_at (drop at b)) (drop at b))
begins_at comps b at are clear = segment_is_spelled comps (drop at b) (All-drop (λ (byte : ℕ). byte < 256) at b are) clear

-- how many bytes a segment takes that bytes begin with
pub takes : (comps : ℕ) (bytes rest : List ℕ) (s : Segment) → BeginsWith comps bytes s rest → size_at bytes ≡ length (spelling comps s)
takes comps bytes rest s begins = ap size_at begins.spelled ∙ (segment_is_read comps s rest begins.range).takes

-- a header that was walked over

pub record Walked (kind : HeaderKind) (comps : ℕ) (b : List ℕ) (before : List Segment) (at : ℕ) (header : Header) : Type 0 where
  pub new : List Segment
  pub all : header.segments ≡ before ++ new
  pub spelled : drop at b ≡ all_bytes comps new ++ drop header.end b
  pub are : AreSegments kind comps before new
  pub size : header.end ≡ at + length (all_bytes comps new)

walked_none : (kind : HeaderKind) (comps : ℕ) (b : List ℕ) (before : List Segment) (at : ℕ) → Walked kind comps b before at (record { segments = before; end = at })
walked_none kind comps b before at = record { new = []; all = sym (append-nil before); spelled = refl; are = tt; size = omega arith }

walked_more : (kind : HeaderKind) (comps : ℕ) (b : List ℕ) (before : List Segment) (at : ℕ) (header : Header) → AreBytes b → stops kind comps b before at ≡ false
    → Walked kind comps b (before ++ segment_at comps (drop at b) ∷ []) (at + size_at (drop at b)) header → Walked kind comps b before at header
walked_more kind comps b before at header are goes later =
    let s = segment_at comps (drop at b) in
    let here = going kind comps b before at goes in
    let clear = is_clear kind comps b before at here.0 in
    let begins = begins_at comps b at are clear.rules in
    let size = takes comps (drop at b) (drop (size_at (drop at b)) (drop at b)) s begins in
    record {
      new = s ∷ later.new;
      all = later.all ∙ append_assoc before (s ∷ []) later.new;
      spelled = begins.spelled ∙ ap (λ (r : List ℕ). spelling comps s ++ r) (drop-drop (size_at (drop at b)) at b ∙ later.spelled)
          ∙ sym (append_assoc (spelling comps s) (all_bytes comps later.new) (drop header.end b));
      are = (record { range = begins.range; stands = clear.stands; once_packed = clear.alone; inside = here.1; once = clear.once }, later.are);
      size = later.size ∙ omega (arith, size, length-append (spelling comps s) (all_bytes comps later.new));
    }

pub walked : (kind : HeaderKind) (comps : ℕ) (b : List ℕ) (n : ℕ) (before : List Segment) (at : ℕ) → AreBytes b → Walked kind comps b before at (longest kind comps b n before at)
unfolding longest
walked kind comps b zero before at are = walked_none kind comps b before at
walked kind comps b (suc n) before at are =
    let P : Header → Type 0 = λ h. Walked kind comps b before at h in
    elim (cases_Bool (stops kind comps b before at)) [
      | inl t ↦ subst P (sym (longest_stops kind comps b (suc n) before at t)) (walked_none kind comps b before at)
      | inr f ↦ subst P (sym (longest_goes kind comps b n before at f))
          (walked_more kind comps b before at (longest kind comps b n (before ++ segment_at comps (drop at b) ∷ []) (at + size_at (drop at b))) are f
          (walked kind comps b n (before ++ segment_at comps (drop at b) ∷ []) (at + size_at (drop at b)) are))
    ]

longest_ends : (kind : HeaderKind) (comps : ℕ) (b : List ℕ) (n : ℕ) (before : List Segment) (at : ℕ) → length b - at ≤ n
    → stops kind comps b (longest kind comps b n before at).segments (longest kind comps b n before at).end ≡ true
unfolding longest
longest_ends kind comps b zero before at h = stops_past kind comps b before at (omega arith)
longest_ends kind comps b (suc n) before at h =
    let P : Header → Type 0 = λ x. stops kind comps b x.segments x.end ≡ true in
    elim (cases_Bool (stops kind comps b before at)) [
      | inl t ↦ subst P (sym (longest_stops kind comps b (suc n) before at t)) t
      | inr f ↦
          let two : 2 ≤ size_at (drop at b) = size_is_two (drop at b) in
          let fewer : length b - (at + size_at (drop at b)) ≤ n = omega arith in
          subst P (sym (longest_goes kind comps b n before at f)) (longest_ends kind comps b n (before ++ segment_at comps (drop at b) ∷ []) (at + size_at (drop at b)) fewer)
    ]

or_same : (x y : Bool) → x ≡ false → (x || y) ≡ true → y ≡ true
or_same true y f h = absurd (cc)
or_same false y f h = h

ends_there : (kind : HeaderKind) (comps : ℕ) (b : List ℕ) (before : List Segment) (at : ℕ) → stops kind comps b before at ≡ true → segment_fault kind comps b before at ≡ None
    → ends_header (segment_at comps (drop at b)) ≡ true
unfolding stops
ends_there kind comps b before at h clear =
    or_same (is_some (segment_fault kind comps b before at)) (ends_header (segment_at comps (drop at b))) (ap (λ (x : Option StreamFault). is_some x) clear) h

-- a header in which nothing is violated ends with its marker
pub header_ends : (kind : HeaderKind) (comps : ℕ) (b : List ℕ) (at : ℕ) → header_fault kind comps b at ≡ None → ends_header (segment_at comps (drop (header_at kind comps b at).end b)) ≡ true
header_ends kind comps b at clear =
    ends_there kind comps b (header_at kind comps b at).segments (header_at kind comps b at).end (longest_ends kind comps b (length b) [] at (omega arith)) clear

-- where a marker stands

get_two : (xs : List ℕ) (first second : ℕ) → get_or xs 0 0 ≡ first → get_or xs 1 0 ≡ second → 0 < second → xs ≡ first ∷ second ∷ drop 2 xs
get_two [] first second one two some = absurd (omega arith)
get_two (x ∷ []) first second one two some = absurd (omega arith)
get_two (x ∷ y ∷ xs) first second one two some = rw (← one, ← two) refl

pub marker_there : (b : List ℕ) (at code : ℕ) → marker_at b at code ≡ true → 0 < code → drop at b ≡ 255 ∷ code ∷ drop (at + 2) b
marker_there b at code h some =
    let p = and_parts (get_or b at 0 == 255) (get_or b (at + 1) 0 == code) h in
    let first : get_or (drop at b) 0 0 ≡ 255 = get_or-drop at b 0 0 ∙ ap (λ (n : ℕ). get_or b n 0) (add-zero at) ∙ eqb-true (get_or b at 0) 255 p.0 in
    let second : get_or (drop at b) 1 0 ≡ code = get_or-drop at b 1 0 ∙ eqb-true (get_or b (at + 1) 0) code p.1 in
    get_two (drop at b) 255 code first second some ∙ ap (λ (x : List ℕ). 255 ∷ code ∷ x) (drop-drop 2 at b)

-- SOD, and no other segment, ends a tile-part's header

sod_first : (s : Segment) → ends_header s ≡ true → stands_in First s ≡ true → s ≡ segment.Sod
sod_first (segment.Sot sot) ends stands = absurd (cc)
sod_first segment.Sod ends stands = refl
sod_first _ ends stands = absurd (cc)

sod_later : (s : Segment) → ends_header s ≡ true → stands_in Later s ≡ true → s ≡ segment.Sod
sod_later (segment.Sot sot) ends stands = absurd (cc)
sod_later segment.Sod ends stands = refl
sod_later _ ends stands = absurd (cc)

pub sod_ends : (packed : Bool) (sot : Sot) (s : Segment) → ends_header s ≡ true → stands_in (kind_of packed sot) s ≡ true → s ≡ segment.Sod
sod_ends false sot s ends =
    elim (cases_Bool (sot.part == 0)) [
      | inl t ↦ rw t (sod_first s ends)
      | inr f ↦ rw f (sod_later s ends)
    ]
sod_ends true sot s ends =
    elim (cases_Bool (sot.part == 0)) [
      | inl t ↦ rw t (sod_first s ends)
      | inr f ↦ rw f (sod_later s ends)
    ]

-- the faults of a tile-part in which nothing is violated

record PartClear (packed : Bool) (comps tiles : ℕ) (b : List ℕ) (out : Bool) (at : ℕ) : Type 0 where
  pub start : start_fault comps b at ≡ None
  pub sot : sot_fault tiles b at (sot_in b at) out ≡ None
  pub header : header_fault (kind_of packed (sot_in b at)) comps b (after_sot b at) ≡ None
  pub sod : sod_fault b at (sot_in b at) (part_header packed comps b at).end ≡ None

part_clear : (packed : Bool) (comps tiles : ℕ) (b : List ℕ) (out : Bool) (at : ℕ) → part_fault packed comps tiles b out at ≡ None → PartClear packed comps tiles b out at
unfolding part_fault
part_clear packed comps tiles b out at h =
    let start = start_fault comps b at in
    let sot = sot_fault tiles b at (sot_in b at) out in
    let header = header_fault (kind_of packed (sot_in b at)) comps b (after_sot b at) in
    let sod = sod_fault b at (sot_in b at) (part_header packed comps b at).end in
    let one = none_later start (option_or sot (option_or header sod)) h in
    let two = none_later sot (option_or header sod) one in
    record {
      start = none_first start (option_or sot (option_or header sod)) h;
      sot = none_first sot (option_or header sod) one;
      header = none_first header sod two;
      sod = none_later header sod two;
    }

record SotClear (tiles : ℕ) (b : List ℕ) (at : ℕ) (sot : Sot) (out : Bool) : Type 0 where
  pub tile : sot.tile < tiles
  pub turn : out ≡ false
  pub length : at + sot.psot ≤ length b

sot_clear : (tiles : ℕ) (b : List ℕ) (at : ℕ) (sot : Sot) (out : Bool) → sot_fault tiles b at sot out ≡ None → SotClear tiles b at sot out
unfolding sot_fault
sot_clear tiles b at sot out h =
    let tile = broken NO_TILE at (nat_le tiles sot.tile) in
    let turn = broken PART_NUMBER at out in
    let size = broken PART_LENGTH at (has_wrong_length b at sot) in
    let one = none_first (option_or tile turn) size h in
    let two = or_parts (nat_lt 0 sot.psot && nat_lt sot.psot 14) (nat_lt (length b) (at + sot.psot)) (broken_none PART_LENGTH at (has_wrong_length b at sot) (none_later (option_or tile turn) size h)) in
    record {
      tile = leb-false tiles sot.tile (broken_none NO_TILE at (nat_le tiles sot.tile) (none_first tile turn one));
      turn = broken_none PART_NUMBER at out (none_later tile turn one);
      length = ltb-false (length b) (at + sot.psot) two.1;
    }

either_first : (x y : Bool) → y ≡ false → (x || y) ≡ true → x ≡ true
either_first true y f h = refl
either_first false y f h = absurd (cc)

pub start_rules : (comps : ℕ) (b : List ℕ) (at : ℕ) → start_fault comps b at ≡ None → marker_at b at EOC ≡ false → (marker_at b at SOT ≡ true) × (first_broken comps (drop at b) ≡ None)
unfolding start_fault
start_rules comps b at h goes =
    let here = not-false (marker_at b at SOT || marker_at b at EOC) (broken_none PART_END at (not (marker_at b at SOT || marker_at b at EOC)) (none_first (broken PART_END at (not (marker_at b at SOT || marker_at b at EOC))) (rule_at at (first_broken comps (drop at b))) h)) in (
      either_first (marker_at b at SOT) (marker_at b at EOC) goes here,
      rule_none at (first_broken comps (drop at b)) (none_later (broken PART_END at (not (marker_at b at SOT || marker_at b at EOC))) (rule_at at (first_broken comps (drop at b))) h),
    )

sod_last : (b : List ℕ) (at : ℕ) (sot : Sot) (sod : ℕ) → sod_fault b at sot sod ≡ None → sot.psot ≡ 0 → marker_at b (length b - 2) EOC ≡ true
unfolding sod_fault
sod_last b at sot sod h none =
    let here : (sot.psot == 0) ≡ true = eq-eqb sot.psot 0 none in
    not-false (marker_at b (length b - 2) EOC) (or_parts (not (marker_at b (length b - 2) EOC)) (nat_lt (length b - 2) (sod + 2)) (broken_none PART_END (length b - 2) (not (marker_at b (length b - 2) EOC) || nat_lt (length b - 2) (sod + 2)) (rw here at h))).0

-- where a tile-part ends: Psot says, or EOC stands at the end of the file
record SodClear (b : List ℕ) (at : ℕ) (sot : Sot) (sod : ℕ) : Type 0 where
  pub within : sod + 2 ≤ end_of b at sot
  pub last : sot.psot ≡ 0 → marker_at b (length b - 2) EOC ≡ true

sod_clear : (b : List ℕ) (at : ℕ) (sot : Sot) (sod : ℕ) → sod_fault b at sot sod ≡ None → SodClear b at sot sod
sod_clear b at sot sod h = record { within = sod_within b at sot sod h; last = sod_last b at sot sod h }

-- a tile-part that was walked over
pub record PartWritten (packed : Bool) (comps tiles : ℕ) (b : List ℕ) (before : List PlacedPart) (at : ℕ) (part : PlacedPart) : Type 0 where
  pub written : TilePart
  pub placed : part ≡ part_of comps at written
  pub spelled : drop at b ≡ part_bytes comps written ++ drop (end_of_part part) b
  pub end : end_of_part part ≡ at + length (part_bytes comps written)
  pub is : IsTilePart packed comps tiles before written
  pub length : (written.sot.psot ≡ length (part_bytes comps written)) ⊎ ((written.sot.psot ≡ 0) × (end_of_part part ≡ length b - 2) × (marker_at b (length b - 2) EOC ≡ true))

-- a header as it was walked over
pub record HeaderSpelled (kind : HeaderKind) (comps : ℕ) (b : List ℕ) (at : ℕ) : Type 0 where
  pub spelled : drop at b ≡ all_bytes comps (header_at kind comps b at).segments ++ drop (header_at kind comps b at).end b
  pub are : AreSegments kind comps [] (header_at kind comps b at).segments
  pub size : (header_at kind comps b at).end ≡ at + length (all_bytes comps (header_at kind comps b at).segments)

pub header_spelled : (kind : HeaderKind) (comps : ℕ) (b : List ℕ) (at : ℕ) → AreBytes b → HeaderSpelled kind comps b at
header_spelled kind comps b at are =
    let w = walked kind comps b (length b) [] at are in
    let P : List Segment → Type 0 = λ x. AreSegments kind comps [] x in
    record {
      spelled = w.spelled ∙ ap (λ (x : List Segment). all_bytes comps x ++ drop (header_at kind comps b at).end b) (sym w.all);
      are = subst P (sym w.all) w.are;
      size = w.size ∙ ap (λ (x : List Segment). at + length (all_bytes comps x)) (sym w.all);
    }

-- one tile-part

end_within : (b : List ℕ) (at : ℕ) (sot : Sot) → at + sot.psot ≤ length b → end_of b at sot ≤ length b
end_within b at sot h =
    elim (cases_Bool (sot.psot == 0)) [
      | inl t ↦ rw t (omega arith)
      | inr f ↦ rw f h
    ]

pub same_part : (place : ℕ) (sot : Sot) (one other : List Segment) (heads apart : Option (List Body)) (from start count size : ℕ) → one ≡ other → heads ≡ apart → from ≡ start → count ≡ size
    → ◌≡◌ {A = PlacedPart} (record { place = place; sot = sot; header = one; heads = heads; body = record { at = from; length = count } })
    (record { place = place; sot = sot; header = other; heads = apart; body = record { at = start; length = size } })
same_part place sot one other heads apart from start count size headers packed places sizes = rw (headers, packed, places, sizes) refl

pub regroup : (a b c d e : List ℕ) → a ++ (b ++ (c ++ (d ++ e))) ≡ ((a ++ (b ++ c)) ++ d) ++ e
regroup a b c d e = sym (simp append_assoc)

part_shape : (packed : Bool) (comps : ℕ) (b : List ℕ) (at : ℕ) → part_at packed comps b at ≡ record {
  place = at;
  sot = sot_in b at;
  header = without_ppt (part_header packed comps b at).segments;
  heads = heads_in comps (after_sot b at) (part_header packed comps b at).segments;
  body = body_of b at (sot_in b at) (part_header packed comps b at).end;
}
unfolding part_at
part_shape packed comps b at = refl

zero_or_not : (n : ℕ) → (n ≡ 0) ⊎ ((n == 0) ≡ false)
zero_or_not n = grind (arith, nat_tests)

-- with these numbers of bytes
record PartSizes (comps : ℕ) (b : List ℕ) (at : ℕ) (sot : Sot) (header : Header) (new : List Segment) (size : ℕ) : Type 0 where
  pub sot_size : size ≡ length (spelling comps (segment.Sot sot))
  pub header_size : header.end ≡ at + size + length (all_bytes comps new)
  pub within : header.end + 2 ≤ end_of b at sot
  pub most : end_of b at sot ≤ length b

module _ (comps : ℕ) (b : List ℕ) (at : ℕ) (sot : Sot) (header : Header) (new : List Segment) (size : ℕ) (sizes : PartSizes comps b at sot header new size) where
  data_of : List ℕ
  data_of = take (end_of b at sot - (header.end + 2)) (drop (header.end + 2) b)

  written_of : TilePart
  written_of = record { sot = sot; header = new; body = data_of }

  data_size : length data_of ≡ end_of b at sot - (header.end + 2)
  unfolding data_of
  data_size =
      let within = sizes.within in
      let most = sizes.most in
      simp (length-take, length-drop) (omega arith)

  head_size : at + length (head_bytes comps written_of) ≡ header.end + 2
  unfolding written_of
  head_size =
      omega (arith, sizes.sot_size, sizes.header_size, length-append (spelling comps (segment.Sot sot)) (all_bytes comps new ++ spelling comps segment.Sod), length-append (all_bytes comps new) (spelling comps segment.Sod))

  part_size : at + length (part_bytes comps written_of) ≡ end_of b at sot
  unfolding written_of
  part_size = omega (arith, head_size, data_size, length-append (head_bytes comps written_of) data_of, sizes.within)

  is_placed : (segments : List Segment) → segments ≡ new
      → ◌≡◌ {A = PlacedPart} (record { place = at; sot = sot; header = without_ppt segments; heads = heads_in comps (at + size) segments; body = body_of b at sot header.end }) (part_of comps at written_of)
  unfolding written_of
  is_placed segments same =
      same_part at sot (without_ppt segments) (without_ppt new) (heads_in comps (at + size) segments) (heads_in comps (at + length (spelling comps (segment.Sot sot))) new) (header.end + 2) (at + length (head_bytes comps written_of)) (end_of b at sot - (header.end + 2)) (length data_of) (ap without_ppt same)
      (ap (λ (n : ℕ). heads_in comps (at + n) segments) sizes.sot_size ∙ ap (heads_in comps (at + length (spelling comps (segment.Sot sot)))) same) (sym head_size) (sym data_size)

  is_written : drop at b ≡ spelling comps (segment.Sot sot) ++ drop (at + size) b → drop (at + size) b ≡ all_bytes comps new ++ drop header.end b
      → drop header.end b ≡ spelling comps segment.Sod ++ drop (header.end + 2) b → drop at b ≡ part_bytes comps written_of ++ drop (end_of b at sot) b
  unfolding written_of data_of
  is_written first second third =
      let fourth : drop (header.end + 2) b ≡ data_of ++ drop (end_of b at sot) b =
      sym (take-append-drop (end_of b at sot - (header.end + 2)) (drop (header.end + 2) b))
      ∙ ap (λ (x : List ℕ). data_of ++ x) (drop-drop (end_of b at sot - (header.end + 2)) (header.end + 2) b ∙ ap (λ (n : ℕ). drop n b) (omega (arith, sizes.within))) in
      first ∙ ap (λ (x : List ℕ). spelling comps (segment.Sot sot) ++ x) (second ∙ ap (λ (x : List ℕ). all_bytes comps new ++ x) (third ∙ ap (λ (x : List ℕ). spelling comps segment.Sod ++ x) fourth))
      ∙ regroup (spelling comps (segment.Sot sot)) (all_bytes comps new) (spelling comps segment.Sod) data_of (drop (end_of b at sot) b)

  written_sot : written_of.sot ≡ sot
  unfolding written_of
  written_sot = refl

  written_header : written_of.header ≡ new
  unfolding written_of
  written_header = refl

  is_part : (packed : Bool) (tiles : ℕ) (before : List PlacedPart) → SotInRange sot → AreSegments (kind_of packed sot) comps [] new → sot.tile < tiles → comes_out_of_turn before sot ≡ false
      → IsTilePart packed comps tiles before written_of
  unfolding written_of
  is_part packed tiles before range header tile turn = record { range = range; header = header; tile = tile; turn = turn }

  is_long : sot.psot ≡ 0 → end_of b at sot ≡ length b - 2
  is_long h = rw (eq-eqb sot.psot 0 h) refl

  names_length : (sot.psot == 0) ≡ false → sot.psot ≡ length (part_bytes comps written_of)
  names_length h =
      let end : end_of b at sot ≡ at + sot.psot = rw h refl in
      omega (arith, end, part_size)

pub part_written : (packed : Bool) (comps tiles : ℕ) (b : List ℕ) (before : List PlacedPart) (at : ℕ) → AreBytes b → marker_at b at EOC ≡ false → fault_after packed comps tiles b before at ≡ None
    → PartWritten packed comps tiles b before at (part_at packed comps b at)
part_written packed comps tiles b before at are goes none =
    let sot = sot_in b at in
    let header = part_header packed comps b at in
    let clear = part_clear packed comps tiles b (comes_out_of_turn before sot) at none in
    let start = start_rules comps b at clear.start goes in
    let fits = sot_clear tiles b at sot (comes_out_of_turn before sot) clear.sot in
    let ending = sod_clear b at sot header.end clear.sod in
    let P : Segment → Type 0 = λ s. BeginsWith comps (drop at b) s (drop (size_at (drop at b)) (drop at b)) in
    let begins = subst P (sot_stands comps b at start.0) (begins_at comps b at are start.1) in
    let size = takes comps (drop at b) (drop (size_at (drop at b)) (drop at b)) (segment.Sot sot) begins in
    let w = walked (kind_of packed sot) comps b (length b) [] (after_sot b at) are in
    let last = is_clear (kind_of packed sot) comps b header.segments header.end clear.header in
    let sod : segment_at comps (drop header.end b) ≡ segment.Sod = sod_ends packed sot (segment_at comps (drop header.end b)) (header_ends (kind_of packed sot) comps b (after_sot b at) clear.header) last.stands in
    let Q : Segment → Type 0 = λ s. BeginsWith comps (drop header.end b) s (drop (size_at (drop header.end b)) (drop header.end b)) in
    let begins_sod = subst Q sod (begins_at comps b header.end are last.rules) in
    let size_sod : size_at (drop header.end b) ≡ 2 = takes comps (drop header.end b) (drop (size_at (drop header.end b)) (drop header.end b)) segment.Sod begins_sod in
    let sizes : PartSizes comps b at sot header w.new (size_at (drop at b)) = record { sot_size = size; header_size = w.size; within = ending.within; most = end_within b at sot fits.length } in
    let written = written_of comps b at sot header w.new (size_at (drop at b)) sizes in
    let third : drop header.end b ≡ spelling comps segment.Sod ++ drop (header.end + 2) b =
    begins_sod.spelled ∙ ap (λ (x : List ℕ). spelling comps segment.Sod ++ x) (ap (λ (n : ℕ). drop n (drop header.end b)) size_sod ∙ drop-drop 2 header.end b) in
    let first : drop at b ≡ spelling comps (segment.Sot sot) ++ drop (at + size_at (drop at b)) b = begins.spelled ∙ ap (λ (x : List ℕ). spelling comps (segment.Sot sot) ++ x) (drop-drop (size_at (drop at b)) at b) in
    let end : end_of_part (part_at packed comps b at) ≡ end_of b at sot = ap end_of_part (part_shape packed comps b at) ∙ omega (arith, ending.within) in
    let R : Sot → Type 0 = λ s. (s.psot ≡ length (part_bytes comps written)) ⊎ ((s.psot ≡ 0) × (end_of_part (part_at packed comps b at) ≡ length b - 2) × (marker_at b (length b - 2) EOC ≡ true)) in
    record {
      written = written;
      placed = part_shape packed comps b at ∙ is_placed comps b at sot header w.new (size_at (drop at b)) sizes header.segments w.all;
      spelled = is_written comps b at sot header w.new (size_at (drop at b)) sizes first w.spelled third ∙ ap (λ (n : ℕ). part_bytes comps written ++ drop n b) (sym end);
      end = end ∙ sym (part_size comps b at sot header w.new (size_at (drop at b)) sizes);
      is = is_part comps b at sot header w.new (size_at (drop at b)) sizes packed tiles before begins.range w.are fits.tile fits.turn;
      length = subst R (sym (written_sot comps b at sot header w.new (size_at (drop at b)) sizes)) (elim (zero_or_not sot.psot) [
        | inl z ↦ inr (z, end ∙ is_long comps b at sot header w.new (size_at (drop at b)) sizes z, ending.last z)
        | inr f ↦ inl (names_length comps b at sot header w.new (size_at (drop at b)) sizes f)
      ]);
    }

-- tile-parts that were walked over

pub record PartsWritten (packed : Bool) (comps tiles : ℕ) (b : List ℕ) (before : List PlacedPart) (at : ℕ) (res : Parts) : Type 0 where
  pub new : List TilePart
  pub all : res.parts ≡ before ++ placed comps at new
  pub spelled : drop at b ≡ flat_map (part_bytes comps) new ++ drop res.end b
  pub are : (rest : List ℕ) → rest ≡ drop (res.end + 2) b → AreTileParts packed comps tiles rest before at new
  pub size : res.end ≡ at + length (flat_map (part_bytes comps) new)

parts_none : (packed : Bool) (comps tiles : ℕ) (b : List ℕ) (before : List PlacedPart) (at : ℕ) → PartsWritten packed comps tiles b before at (record { parts = before; end = at })
parts_none packed comps tiles b before at = record { new = []; all = sym (append-nil before); spelled = refl; are = λ rest same. tt; size = omega arith }

-- one that names its length, and others after it
parts_and : (packed : Bool) (comps tiles : ℕ) (b : List ℕ) (before : List PlacedPart) (at : ℕ) (res : Parts) (p : TilePart) → IsTilePart packed comps tiles before p → p.sot.psot ≡ length (part_bytes comps p)
    → drop at b ≡ part_bytes comps p ++ drop (at + length (part_bytes comps p)) b
    → PartsWritten packed comps tiles b (before ++ part_of comps at p ∷ []) (at + length (part_bytes comps p)) res → PartsWritten packed comps tiles b before at res
parts_and packed comps tiles b before at res p is named spelled later = record {
  new = p ∷ later.new;
  all = later.all ∙ append_assoc before (part_of comps at p ∷ []) (placed comps (at + length (part_bytes comps p)) later.new);
  spelled = spelled ∙ ap (λ (x : List ℕ). part_bytes comps p ++ x) later.spelled ∙ sym (append_assoc (part_bytes comps p) (flat_map (part_bytes comps) later.new) (drop res.end b));
  are = λ rest same. (is, inl named, later.are rest same);
  size = later.size ∙ omega (arith, length-append (part_bytes comps p) (flat_map (part_bytes comps) later.new));
}

-- the last one, up to EOC at the end of the file
parts_last : (packed : Bool) (comps tiles : ℕ) (b : List ℕ) (before : List PlacedPart) (at : ℕ) (p : TilePart) → IsTilePart packed comps tiles before p → p.sot.psot ≡ 0
    → drop at b ≡ part_bytes comps p ++ drop (at + length (part_bytes comps p)) b → at + length (part_bytes comps p) ≡ length b - 2
    → PartsWritten packed comps tiles b before at (record { parts = before ++ part_of comps at p ∷ []; end = at + length (part_bytes comps p) })
parts_last packed comps tiles b before at p is none spelled end = record {
  new = p ∷ [];
  all = refl;
  spelled = spelled ∙ ap (λ (x : List ℕ). x ++ drop (at + length (part_bytes comps p)) b) (sym (append-nil (part_bytes comps p)));
  are = λ rest same. (is, inr (none, refl, same ∙ drop_all (at + length (part_bytes comps p) + 2) b (omega arith)), tt);
  size = ap (λ (x : List ℕ). at + length x) (sym (append-nil (part_bytes comps p)));
}

last_same : (before : List PlacedPart) (one other : PlacedPart) (end place : ℕ) → one ≡ other → end ≡ place
    → ◌≡◌ {A = Parts} (record { parts = before ++ one ∷ []; end = end }) (record { parts = before ++ other ∷ []; end = place })
last_same before one other end place same ends = rw (same, ends) refl

parts_more_written : (packed : Bool) (comps tiles : ℕ) (b : List ℕ) (n : ℕ) (before : List PlacedPart) (at : ℕ) → AreBytes b → marker_at b at EOC ≡ false → fault_after packed comps tiles b before at ≡ None
    → PartsWritten packed comps tiles b (before ++ part_at packed comps b at ∷ []) (end_of_part (part_at packed comps b at)) (longest_parts packed comps tiles b n (before ++ part_at packed comps b at ∷ []) (end_of_part (part_at packed comps b at)))
    → PartsWritten packed comps tiles b before at (longest_parts packed comps tiles b n (before ++ part_at packed comps b at ∷ []) (end_of_part (part_at packed comps b at)))
parts_more_written packed comps tiles b n before at are goes none later =
    let here = part_written packed comps tiles b before at are goes none in
    let p = here.written in
    let spelled : drop at b ≡ part_bytes comps p ++ drop (at + length (part_bytes comps p)) b = here.spelled ∙ ap (λ (m : ℕ). part_bytes comps p ++ drop m b) here.end in
    elim here.length [
      | inl named ↦
          let P : ℕ → Type 0 = λ m. PartsWritten packed comps tiles b (before ++ part_at packed comps b at ∷ []) m (longest_parts packed comps tiles b n (before ++ part_at packed comps b at ∷ []) (end_of_part (part_at packed comps b at))) in
          let Q : PlacedPart → Type 0 = λ x. PartsWritten packed comps tiles b (before ++ x ∷ []) (at + length (part_bytes comps p)) (longest_parts packed comps tiles b n (before ++ part_at packed comps b at ∷ []) (end_of_part (part_at packed comps b at))) in
          parts_and packed comps tiles b before at (longest_parts packed comps tiles b n (before ++ part_at packed comps b at ∷ []) (end_of_part (part_at packed comps b at))) p here.is named spelled (subst Q here.placed (subst P here.end later))
      | inr last ↦
          let eoc : marker_at b (end_of_part (part_at packed comps b at)) EOC ≡ true = ap (λ (m : ℕ). marker_at b m EOC) last.1 ∙ last.2 in
          let stop = parts_stopped packed comps tiles b n (before ++ part_at packed comps b at ∷ []) (end_of_part (part_at packed comps b at)) (stop_at_eoc packed comps tiles b (before ++ part_at packed comps b at ∷ []) (end_of_part (part_at packed comps b at)) eoc) in
          let same : longest_parts packed comps tiles b n (before ++ part_at packed comps b at ∷ []) (end_of_part (part_at packed comps b at)) ≡ record { parts = before ++ part_of comps at p ∷ []; end = at + length (part_bytes comps p) } =
          stop ∙ last_same before (part_at packed comps b at) (part_of comps at p) (end_of_part (part_at packed comps b at)) (at + length (part_bytes comps p)) here.placed here.end in
          let R : Parts → Type 0 = λ x. PartsWritten packed comps tiles b before at x in
          subst R (sym same) (parts_last packed comps tiles b before at p here.is last.0 spelled (sym here.end ∙ last.1))
    ]

pub goes_on_at : (packed : Bool) (comps tiles : ℕ) (b : List ℕ) (parts : List PlacedPart) (at : ℕ) → parts_stop packed comps tiles b parts at ≡ false → marker_at b at EOC ≡ false
unfolding parts_stop
goes_on_at packed comps tiles b parts at h = (or_parts (marker_at b at EOC) (is_some (fault_after packed comps tiles b parts at)) h).0

pub parts_written : (packed : Bool) (comps tiles : ℕ) (b : List ℕ) (n : ℕ) (before : List PlacedPart) (at : ℕ) → AreBytes b → PartsWritten packed comps tiles b before at (longest_parts packed comps tiles b n before at)
unfolding longest_parts
parts_written packed comps tiles b zero before at are = parts_none packed comps tiles b before at
parts_written packed comps tiles b (suc n) before at are =
    let P : Parts → Type 0 = λ x. PartsWritten packed comps tiles b before at x in
    elim (cases_Bool (parts_stop packed comps tiles b before at)) [
      | inl t ↦ subst P (sym (parts_stopped packed comps tiles b (suc n) before at t)) (parts_none packed comps tiles b before at)
      | inr f ↦ subst P (sym (parts_going packed comps tiles b n before at f))
          (parts_more_written packed comps tiles b n before at are (goes_on_at packed comps tiles b before at f) (goes_clear packed comps tiles b before at f)
          (parts_written packed comps tiles b n (before ++ part_at packed comps b at ∷ []) (end_of_part (part_at packed comps b at)) are))
    ]

parts_end_there : (packed : Bool) (comps tiles : ℕ) (b : List ℕ) (n : ℕ) (before : List PlacedPart) (at : ℕ) → length b - at ≤ n
    → parts_stop packed comps tiles b (longest_parts packed comps tiles b n before at).parts (longest_parts packed comps tiles b n before at).end ≡ true
unfolding longest_parts
parts_end_there packed comps tiles b zero before at h = stop_past packed comps tiles b before at (omega arith)
parts_end_there packed comps tiles b (suc n) before at h =
    let P : Parts → Type 0 = λ x. parts_stop packed comps tiles b x.parts x.end ≡ true in
    elim (cases_Bool (parts_stop packed comps tiles b before at)) [
      | inl t ↦ subst P (sym (parts_stopped packed comps tiles b (suc n) before at t)) t
      | inr f ↦
          let rises : at < end_of_part (part_at packed comps b at) = part_rises packed comps tiles b (comes_out_of_turn before (sot_in b at)) at (goes_clear packed comps tiles b before at f) in
          let fewer : length b - end_of_part (part_at packed comps b at) ≤ n = omega arith in
          subst P (sym (parts_going packed comps tiles b n before at f)) (parts_end_there packed comps tiles b n (before ++ part_at packed comps b at ∷ []) (end_of_part (part_at packed comps b at)) fewer)
    ]

no_stop : (x : Bool) (e : Option StreamFault) → x ≡ false → e ≡ None → (x || is_some e) ≡ true → ⊥
no_stop true e f none h = cc
no_stop false None f none h = cc
no_stop false (Some e) f none h = cc

eoc_of_stop : (packed : Bool) (comps tiles : ℕ) (b : List ℕ) (parts : List PlacedPart) (at : ℕ) → parts_stop packed comps tiles b parts at ≡ true → cond (marker_at b at EOC) None (fault_after packed comps tiles b parts at) ≡ None → marker_at b at EOC ≡ true
unfolding parts_stop
eoc_of_stop packed comps tiles b parts at stop clear =
    elim (cases_Bool (marker_at b at EOC)) [
      | inl t ↦ t
      | inr f ↦
          let none : fault_after packed comps tiles b parts at ≡ None = rw f at clear in
          absurd (no_stop (marker_at b at EOC) (fault_after packed comps tiles b parts at) f none stop)
    ]

-- where nothing is violated EOC stands after the tile-parts
pub eoc_there : (packed : Bool) (comps tiles : ℕ) (b : List ℕ) (at : ℕ) → parts_fault packed comps tiles b at ≡ None → marker_at b (parts_from packed comps tiles b at).end EOC ≡ true
eoc_there packed comps tiles b at clear =
    eoc_of_stop packed comps tiles b (parts_from packed comps tiles b at).parts (parts_from packed comps tiles b at).end (parts_end_there packed comps tiles b (length b) [] at (omega arith)) clear
