-- A front that is spelled is walked over, and what is violated where it ends is what is violated first.
use Rattle.std.proofs.Common.{◌≡◌, ◌∙◌, ◌<◌, ◌+◌, ◌||◌, ℕ, Bool, true, false, not, arith, List, [], ◌∷◌, ◌++◌, length, drop, refl, sym, ap, subst, Option, Some, None, inl, inr, add-zero}
use Rattle.std.specs.List.{flat_map}
use Rattle.std.specs.Option.{option_or}
use Rattle.std.proofs.lemmas.List.{append-nil, append_assoc, length-append}
use Rattle.jx_marker.specs.Codes.{SOC, SOT, EOC}
use Rattle.jx_marker.specs.declared.Segment.{Segment}
use Rattle.jx_marker.specs.declared.Segment.TheVariants as segment
use Rattle.jx_marker.specs.declared.Siz.{Siz}
use Rattle.jx_marker.specs.declared.Sot.{Sot}
use Rattle.jx_marker.specs.Segments.{spelling}
use Rattle.jx_marker.specs.Rules.{first_broken}
use Rattle.jx_marker.specs.Ranges.{SizInRange, SotInRange}
use Rattle.jx_marker.specs.RuleNumbers.{NO_DEFAULTS, NO_PART, PART_END}
use Rattle.jx_codestream.specs.declared.faults.StreamFault.{StreamFault}
use Rattle.jx_codestream.specs.declared.headers.HeaderKind.{HeaderKind}
use Rattle.jx_codestream.specs.declared.headers.HeaderKind.TheVariants.{Main}
use Rattle.jx_codestream.specs.declared.headers.Header.{Header}
use Rattle.jx_codestream.specs.declared.parts.PlacedPart.{PlacedPart}
use Rattle.jx_codestream.specs.declared.Stream.{Stream}
use Rattle.jx_codestream.specs.Faults.{broken, rule_at}
use Rattle.jx_codestream.specs.Headers.{has_packed, segment_fault, header_at, header_fault}
use Rattle.jx_codestream.specs.declared.packed.PackedSegment.{PackedSegment}
use Rattle.jx_codestream.specs.PackedHeaders.{packed_from, shares_fault, with_shares}
use Rattle.jx_codestream.specs.Parts.{marker_at, sot_in, after_sot, kind_of, comes_out_of_turn, start_fault, sot_fault, sod_fault, part_header, part_at, part_fault, fault_after, end_of_part, longest_parts, parts_fault}
use Rattle.jx_codestream.specs.Tiles.{tiles_of}
use Rattle.jx_codestream.specs.Params.{entries_fault, planes_fault}
use Rattle.jx_codestream.specs.First.{tile_number, siz_of, after_siz, front_fault, tiles_fault, lacks_default, main_header, main_fault, parts_after, lacks_part, body_fault, stream_from, parameters_fault, later_fault, first_fault}
use Rattle.jx_codestream.specs.Spells.{TilePart, all_bytes, head_bytes, part_bytes, part_of, placed, AreSegments, AreTileParts, first_sot, main_packed, main_start}
use Rattle.jx_codestream.specs.Read.{IsRead}
use Rattle.jx_codestream.specs.FirstViolated.{main_bytes, front_bytes, sot_bytes, header_bytes, AreNamed, AreParts, IsHeader, IsWhole, IsInSiz, IsInMain, IsAtFirstSot, IsAtPart, IsAtSot, IsInHeader, IsAtSod, IsAtEoc, IsUnshared, IsShort, IsOver, IsFirst}
use Rattle.jx_codestream.proofs.FaultLemmas.{none_of_both, broken_false}
use Rattle.jx_codestream.proofs.HeaderLemmas.{stops_at_fault, stopped_fault}
use Rattle.jx_codestream.proofs.PartLemmas.{parts_on, go_on, stop_at_fault, fault_at_end}
use Rattle.jx_codestream.proofs.SpellLemmas.{regroup, marker_there}
use Rattle.jx_codestream.proofs.OneLemmas.{stands_there, drop_on, header_walked, header_read, header_clear}
use Rattle.jx_codestream.proofs.PartsReadLemmas.{sod_stands, sot_size, SotRead, sot_read, ends_named, part_read}
use Rattle.jx_codestream.proofs.UniqueLemmas.{front_read, first_is, BodyOver, body_over, body_read, shares_are, stream_made, is_read, clear_limits}
use Rattle.jx_codestream.proofs.FirstLemmas.{parts_test, lacks_test, shares_test}
use Rattle.std.proofs.lemmas.Bool.{cases_Bool, or_right}

pub some_first : (x later : Option StreamFault) (f : StreamFault) → x ≡ Some f → option_or x later ≡ Some f
some_first x later f h = rw h refl

pub none_before : (x later : Option StreamFault) → x ≡ None → option_or x later ≡ later
none_before x later h = rw h refl

-- how long fronts are

pub main_size : (siz : Siz) (main : List Segment) → length (main_bytes siz main) ≡ first_sot siz main
main_size siz main = omega (arith, length-append (spelling 1 (segment.Siz siz)) (all_bytes (length siz.comps) main))

pub front_size : (siz : Siz) (main : List Segment) (parts : List TilePart) → length (front_bytes siz main parts) ≡ first_sot siz main + length (flat_map (part_bytes (length siz.comps)) parts)
front_size siz main parts = length-append (main_bytes siz main) (flat_map (part_bytes (length siz.comps)) parts) ∙ ap (λ (n : ℕ). n + length (flat_map (part_bytes (length siz.comps)) parts)) (main_size siz main)

pub header_size : (siz : Siz) (main : List Segment) (parts : List TilePart) (sot : Sot) (before : List Segment)
    → length (header_bytes siz main parts sot before) ≡ length (front_bytes siz main parts) + 12 + length (all_bytes (length siz.comps) before)
header_size siz main parts sot before =
    length-append (sot_bytes siz main parts sot) (all_bytes (length siz.comps) before)
    ∙ ap (λ (n : ℕ). n + length (all_bytes (length siz.comps) before)) (length-append (front_bytes siz main parts) (spelling (length siz.comps) (segment.Sot sot)) ∙ ap (λ (n : ℕ). length (front_bytes siz main parts) + n) (sot_size (length siz.comps) sot))

-- what follows a front

pub main_rest : (siz : Siz) (main : List Segment) (tail : List ℕ) → main_bytes siz main ++ tail ≡ spelling 1 segment.Soc ++ (spelling 1 (segment.Siz siz) ++ (all_bytes (length siz.comps) main ++ tail))
main_rest siz main tail = ap (λ (x : List ℕ). 0xFF ∷ SOC ∷ x) (append_assoc (spelling 1 (segment.Siz siz)) (all_bytes (length siz.comps) main) tail)

pub front_rest : (siz : Siz) (main : List Segment) (parts : List TilePart) (tail : List ℕ) → front_bytes siz main parts ++ tail ≡ main_bytes siz main ++ (flat_map (part_bytes (length siz.comps)) parts ++ tail)
front_rest siz main parts tail = append_assoc (main_bytes siz main) (flat_map (part_bytes (length siz.comps)) parts) tail

pub sot_rest : (siz : Siz) (main : List Segment) (parts : List TilePart) (sot : Sot) (tail : List ℕ)
    → sot_bytes siz main parts sot ++ tail ≡ front_bytes siz main parts ++ (spelling (length siz.comps) (segment.Sot sot) ++ tail)
sot_rest siz main parts sot tail = append_assoc (front_bytes siz main parts) (spelling (length siz.comps) (segment.Sot sot)) tail

pub header_rest : (siz : Siz) (main : List Segment) (parts : List TilePart) (sot : Sot) (before : List Segment) (tail : List ℕ)
    → header_bytes siz main parts sot before ++ tail ≡ front_bytes siz main parts ++ (spelling (length siz.comps) (segment.Sot sot) ++ (all_bytes (length siz.comps) before ++ tail))
header_rest siz main parts sot before tail =
    append_assoc (sot_bytes siz main parts sot) (all_bytes (length siz.comps) before) tail ∙ sot_rest siz main parts sot (all_bytes (length siz.comps) before ++ tail)

-- after a SIZ in its ranges

record AfterSiz (b : List ℕ) (siz : Siz) (main : List Segment) (tail : List ℕ) : Type 0 where
  pub first : first_fault b ≡ later_fault siz b (after_siz b)
  pub place : after_siz b + length (all_bytes (length siz.comps) main) ≡ first_sot siz main
  pub there : drop (after_siz b) b ≡ all_bytes (length siz.comps) main ++ tail

after_front : (b : List ℕ) (siz : Siz) (main : List Segment) (tail : List ℕ) → SizInRange siz → b ≡ main_bytes siz main ++ tail → AfterSiz b siz main tail
after_front b siz main tail range h =
    let read = front_read b siz (all_bytes (length siz.comps) main ++ tail) range (h ∙ main_rest siz main tail) in
    record {
      first = first_is b siz read.clear read.same;
      place = ap (λ (n : ℕ). n + length (all_bytes (length siz.comps) main)) read.start;
      there = read.rest;
    }

in_tiles : (siz : Siz) (b : List ℕ) (start : ℕ) (f : StreamFault) → tiles_fault siz ≡ Some f → later_fault siz b start ≡ Some f
unfolding later_fault
in_tiles siz b start f h = some_first (tiles_fault siz) (option_or (body_fault (length siz.comps) (tile_number siz) b start) (parameters_fault (stream_from siz b start))) f h

in_body : (siz : Siz) (b : List ℕ) (start : ℕ) (f : StreamFault) → tiles_fault siz ≡ None → body_fault (length siz.comps) (tile_number siz) b start ≡ Some f → later_fault siz b start ≡ Some f
unfolding later_fault
in_body siz b start f few h =
    none_before (tiles_fault siz) (option_or (body_fault (length siz.comps) (tile_number siz) b start) (parameters_fault (stream_from siz b start))) few
    ∙ some_first (body_fault (length siz.comps) (tile_number siz) b start) (parameters_fault (stream_from siz b start)) f h

in_parameters : (siz : Siz) (b : List ℕ) (start : ℕ) (s : Stream) (f : StreamFault) → tiles_fault siz ≡ None → body_fault (length siz.comps) (tile_number siz) b start ≡ None → stream_from siz b start ≡ s
    → parameters_fault s ≡ Some f → later_fault siz b start ≡ Some f
unfolding later_fault
in_parameters siz b start s f few body same h =
    none_before (tiles_fault siz) (option_or (body_fault (length siz.comps) (tile_number siz) b start) (parameters_fault (stream_from siz b start))) few
    ∙ none_before (body_fault (length siz.comps) (tile_number siz) b start) (parameters_fault (stream_from siz b start)) body
    ∙ ap parameters_fault same ∙ h

-- in the main header

in_main : (comps tiles : ℕ) (b : List ℕ) (start : ℕ) (f : StreamFault) → main_fault comps b start ≡ Some f → body_fault comps tiles b start ≡ Some f
unfolding body_fault
in_main comps tiles b start f h =
    some_first (main_fault comps b start) (option_or (parts_test comps tiles b start) (option_or (lacks_test comps tiles b start) (shares_test comps tiles b start))) f h

in_header : (comps : ℕ) (b : List ℕ) (start : ℕ) (f : StreamFault) → header_fault Main comps b start ≡ Some f → main_fault comps b start ≡ Some f
unfolding main_fault
in_header comps b start f h = some_first (header_fault Main comps b start) (broken NO_DEFAULTS (main_header comps b start).end (lacks_default (main_header comps b start).segments)) f h

-- what is violated after segments that are spelled is violated in this header
after_segments : (kind : HeaderKind) (comps : ℕ) (b : List ℕ) (start : ℕ) (before : List Segment) (tail : List ℕ) (f : StreamFault) → AreSegments kind comps [] before
    → drop start b ≡ all_bytes comps before ++ tail → segment_fault kind comps b before (start + length (all_bytes comps before)) ≡ Some f → header_fault kind comps b start ≡ Some f
after_segments kind comps b start before tail f are there h =
    let at = start + length (all_bytes comps before) in
    stopped_fault kind comps b start before at (sym (header_walked kind comps b before [] start tail are there)) (stops_at_fault kind comps b before at f h) ∙ h

-- the main header up to a SOT
record MainOver (comps : ℕ) (b : List ℕ) (main : List Segment) (start : ℕ) : Type 0 where
  pub clear : header_fault Main comps b start ≡ None
  pub header : main_header comps b start ≡ record { segments = main; end = start + length (all_bytes comps main) }

main_over : (comps : ℕ) (b : List ℕ) (main : List Segment) (start : ℕ) (sot : Sot) (tail : List ℕ) → AreSegments Main comps [] main → SotInRange sot
    → drop start b ≡ all_bytes comps main ++ (spelling comps (segment.Sot sot) ++ tail) → MainOver comps b main start
main_over comps b main start sot tail are range there = record {
  clear = header_clear Main comps b main start (segment.Sot sot) tail are range refl refl there;
  header = header_read Main comps b main [] start (segment.Sot sot) tail are range refl refl there;
}

in_17 : (comps : ℕ) (b : List ℕ) (main : List Segment) (start : ℕ) (f : StreamFault) → MainOver comps b main start → broken NO_DEFAULTS (start + length (all_bytes comps main)) (lacks_default main) ≡ Some f
    → main_fault comps b start ≡ Some f
unfolding main_fault
in_17 comps b main start f over h =
    none_before (header_fault Main comps b start) (broken NO_DEFAULTS (main_header comps b start).end (lacks_default (main_header comps b start).segments)) over.clear
    ∙ ap (λ (x : Header). broken NO_DEFAULTS x.end (lacks_default x.segments)) over.header ∙ h

no_17 : (comps : ℕ) (b : List ℕ) (main : List Segment) (start : ℕ) → MainOver comps b main start → lacks_default main ≡ false → main_fault comps b start ≡ None
unfolding main_fault
no_17 comps b main start over defaults =
    none_before (header_fault Main comps b start) (broken NO_DEFAULTS (main_header comps b start).end (lacks_default (main_header comps b start).segments)) over.clear
    ∙ ap (λ (x : Header). broken NO_DEFAULTS x.end (lacks_default x.segments)) over.header ∙ broken_false NO_DEFAULTS (start + length (all_bytes comps main)) (lacks_default main) defaults

in_parts : (comps tiles : ℕ) (b : List ℕ) (main : List Segment) (start : ℕ) (f : StreamFault) → MainOver comps b main start → lacks_default main ≡ false
    → parts_fault (has_packed main) comps tiles b (start + length (all_bytes comps main)) ≡ Some f → body_fault comps tiles b start ≡ Some f
unfolding body_fault
in_parts comps tiles b main start f over defaults h =
    none_before (main_fault comps b start) (option_or (parts_test comps tiles b start) (option_or (lacks_test comps tiles b start) (shares_test comps tiles b start))) (no_17 comps b main start over defaults)
    ∙ some_first (parts_test comps tiles b start) (option_or (lacks_test comps tiles b start) (shares_test comps tiles b start)) f
    (ap (λ (x : Header). parts_fault (has_packed x.segments) comps tiles b x.end) over.header ∙ h)

-- tile-parts

parts_walked : (packed : Bool) (comps tiles : ℕ) (b : List ℕ) (ps : List TilePart) (before : List PlacedPart) (at : ℕ) (tail : List ℕ) → AreNamed packed comps tiles before at ps → drop at b ≡ flat_map (part_bytes comps) ps ++ tail
    → longest_parts packed comps tiles b (length b) before at ≡ longest_parts packed comps tiles b (length b) (before ++ placed comps at ps) (at + length (flat_map (part_bytes comps) ps))
parts_walked packed comps tiles b [] before at tail are h =
    ap (λ (x : List PlacedPart). longest_parts packed comps tiles b (length b) x at) (sym (append-nil before)) ∙ ap (λ (n : ℕ). longest_parts packed comps tiles b (length b) (before ++ []) n) (sym (add-zero at))
parts_walked packed comps tiles b (p ∷ ps) before at tail are h =
    let rest = flat_map (part_bytes comps) ps ++ tail in
    let front : drop at b ≡ part_bytes comps p ++ rest = h ∙ append_assoc (part_bytes comps p) (flat_map (part_bytes comps) ps) tail in
    let read = part_read packed comps tiles b before at p rest are.0 (ends_named comps p rest are.1) front in
    let later : drop (at + length (part_bytes comps p)) b ≡ rest = drop_on b at (length (part_bytes comps p)) (part_bytes comps p) rest front refl in
    let end : end_of_part (part_at packed comps b at) ≡ at + length (part_bytes comps p) = ap end_of_part read.value ∙ omega (arith, length-append (head_bytes comps p) p.body) in
    let place : at + length (part_bytes comps p) + length (flat_map (part_bytes comps) ps) ≡ at + length (flat_map (part_bytes comps) (p ∷ ps)) =
    omega (arith, length-append (part_bytes comps p) (flat_map (part_bytes comps) ps)) in
    parts_on packed comps tiles b before at read.inside (go_on packed comps tiles b before at read.goes read.clear)
    ∙ ap (λ (n : ℕ). longest_parts packed comps tiles b (length b) (before ++ part_at packed comps b at ∷ []) n) end
    ∙ ap (λ (x : PlacedPart). longest_parts packed comps tiles b (length b) (before ++ x ∷ []) (at + length (part_bytes comps p))) read.value
    ∙ parts_walked packed comps tiles b ps (before ++ part_of comps at p ∷ []) (at + length (part_bytes comps p)) tail are.2 later
    ∙ ap (λ (x : List PlacedPart). longest_parts packed comps tiles b (length b) x (at + length (part_bytes comps p) + length (flat_map (part_bytes comps) ps)))
    (append_assoc before (part_of comps at p ∷ []) (placed comps (at + length (part_bytes comps p)) ps))
    ∙ ap (λ (n : ℕ). longest_parts packed comps tiles b (length b) (before ++ placed comps at (p ∷ ps)) n) place

-- what is violated after tile-parts that are spelled is violated in the tile-parts
after_parts : (packed : Bool) (comps tiles : ℕ) (b : List ℕ) (start : ℕ) (parts : List PlacedPart) (at : ℕ) (f : StreamFault)
    → longest_parts packed comps tiles b (length b) [] start ≡ longest_parts packed comps tiles b (length b) parts at → marker_at b at EOC ≡ false → fault_after packed comps tiles b parts at ≡ Some f
    → parts_fault packed comps tiles b start ≡ Some f
after_parts packed comps tiles b start parts at f walked goes h =
    fault_at_end packed comps tiles b start parts at (sym walked) (stop_at_fault packed comps tiles b parts at f h) ∙ rw goes h

-- some bytes begin with a SOT
record BeginsSot (comps : ℕ) (bytes : List ℕ) : Type 0 where
  pub sot : Sot
  pub range : SotInRange sot
  pub rest : List ℕ
  pub is : bytes ≡ spelling comps (segment.Sot sot) ++ rest

part_begins : (packed : Bool) (comps tiles : ℕ) (before : List PlacedPart) (at : ℕ) (p : TilePart) (ps : List TilePart) (tail : List ℕ) → AreNamed packed comps tiles before at (p ∷ ps)
    → BeginsSot comps (flat_map (part_bytes comps) (p ∷ ps) ++ tail)
part_begins packed comps tiles before at p ps tail are =
    let more = flat_map (part_bytes comps) ps ++ tail in
    record {
      sot = p.sot;
      range = are.0.range;
      rest = all_bytes comps p.header ++ (spelling comps segment.Sod ++ (p.body ++ more));
      is = append_assoc (part_bytes comps p) (flat_map (part_bytes comps) ps) tail ∙ sym (regroup (spelling comps (segment.Sot p.sot)) (all_bytes comps p.header) (spelling comps segment.Sod) p.body more);
    }

some_begins : (packed : Bool) (comps tiles : ℕ) (before : List PlacedPart) (at : ℕ) (parts : List TilePart) (tail : List ℕ) → 0 < length parts → AreNamed packed comps tiles before at parts
    → BeginsSot comps (flat_map (part_bytes comps) parts ++ tail)
some_begins packed comps tiles before at [] tail some are = absurd (omega arith)
some_begins packed comps tiles before at (p ∷ ps) tail some are = part_begins packed comps tiles before at p ps tail are

sot_begins : (packed : Bool) (comps tiles : ℕ) (before : List PlacedPart) (at : ℕ) (parts : List TilePart) (sot : Sot) (tail : List ℕ) → AreNamed packed comps tiles before at parts → SotInRange sot
    → BeginsSot comps (flat_map (part_bytes comps) parts ++ (spelling comps (segment.Sot sot) ++ tail))
sot_begins packed comps tiles before at [] sot tail are range = record { sot = sot; range = range; rest = tail; is = refl }
sot_begins packed comps tiles before at (p ∷ ps) sot tail are range = part_begins packed comps tiles before at p ps (spelling comps (segment.Sot sot) ++ tail) are

-- after a main header and tile-parts
record AfterParts (b : List ℕ) (siz : Siz) (main : List Segment) (parts : List TilePart) (tail : List ℕ) : Type 0 where
  pub there : drop (length (front_bytes siz main parts)) b ≡ tail
  pub first : (f : StreamFault) → marker_at b (length (front_bytes siz main parts)) EOC ≡ false
      → fault_after (has_packed main) (length siz.comps) (tile_number siz) b (placed (length siz.comps) (first_sot siz main) parts) (length (front_bytes siz main parts)) ≡ Some f → first_fault b ≡ Some f

after_all : (b : List ℕ) (siz : Siz) (main : List Segment) (parts : List TilePart) (tail : List ℕ) → AreParts siz main parts → b ≡ front_bytes siz main parts ++ tail
    → BeginsSot (length siz.comps) (flat_map (part_bytes (length siz.comps)) parts ++ tail) → AfterParts b siz main parts tail
after_all b siz main parts tail are h begins =
    let packed = has_packed main in
    let comps = length siz.comps in
    let tiles = tile_number siz in
    let later = flat_map (part_bytes comps) parts ++ tail in
    let start = after_siz b in
    let front = after_front b siz main later are.front.range (h ∙ front_rest siz main parts tail) in
    let over = main_over comps b main start begins.sot begins.rest are.front.segments begins.range (front.there ∙ ap (λ (x : List ℕ). all_bytes comps main ++ x) begins.is) in
    let place : start + length (all_bytes comps main) + length (flat_map (part_bytes comps) parts) ≡ length (front_bytes siz main parts) =
    ap (λ (n : ℕ). n + length (flat_map (part_bytes comps) parts)) front.place ∙ sym (front_size siz main parts) in
    let second : drop (start + length (all_bytes comps main)) b ≡ later = drop_on b start (length (all_bytes comps main)) (all_bytes comps main) later front.there refl in
    let P : ℕ → Type 0 = λ n. AreNamed packed comps tiles [] n parts in
    let walked = parts_walked packed comps tiles b parts [] (start + length (all_bytes comps main)) tail (subst P (sym front.place) are.each) second in
    let same : longest_parts packed comps tiles b (length b) [] (start + length (all_bytes comps main)) ≡ longest_parts packed comps tiles b (length b) (placed comps (first_sot siz main) parts) (length (front_bytes siz main parts)) =
    walked ∙ ap (λ (n : ℕ). longest_parts packed comps tiles b (length b) (placed comps n parts) (start + length (all_bytes comps main) + length (flat_map (part_bytes comps) parts))) front.place
    ∙ ap (λ (n : ℕ). longest_parts packed comps tiles b (length b) (placed comps (first_sot siz main) parts) n) place in
    record {
      there = ap (λ (n : ℕ). drop n b) (sym place) ∙ drop_on b (start + length (all_bytes comps main)) (length (flat_map (part_bytes comps) parts)) (flat_map (part_bytes comps) parts) tail second refl;
      first = λ f goes fault.
          front.first ∙ in_body siz b start f are.front.few (in_parts comps tiles b main start f over are.defaults
          (after_parts packed comps tiles b (start + length (all_bytes comps main)) (placed comps (first_sot siz main) parts) (length (front_bytes siz main parts)) f same goes fault));
    }

-- at a tile-part

eoc_starts : (comps : ℕ) (b : List ℕ) (at : ℕ) → marker_at b at EOC ≡ true → start_fault comps b at ≡ None
unfolding start_fault
eoc_starts comps b at h =
    let rules = (stands_there comps b at segment.Eoc (drop (at + 2) b) tt (marker_there b at EOC h (omega arith))).rules in
    let either : (marker_at b at SOT || marker_at b at EOC) ≡ true = ap (λ x. marker_at b at SOT || x) h ∙ or_right (marker_at b at SOT) true refl in
    none_of_both (broken PART_END at (not (marker_at b at SOT || marker_at b at EOC))) (rule_at at (first_broken comps (drop at b)))
    (broken_false PART_END at (not (marker_at b at SOT || marker_at b at EOC)) (ap not either)) (ap (rule_at at) rules)

start_goes : (comps : ℕ) (b : List ℕ) (at : ℕ) (f : StreamFault) → start_fault comps b at ≡ Some f → marker_at b at EOC ≡ false
start_goes comps b at f h =
    elim (cases_Bool (marker_at b at EOC)) [
      | inl t ↦ let e : None ≡ Some f = sym (eoc_starts comps b at t) ∙ h in absurd (cc)
      | inr g ↦ g
    ]

fault_start : (packed : Bool) (comps tiles : ℕ) (b : List ℕ) (out : Bool) (at : ℕ) (f : StreamFault) → start_fault comps b at ≡ Some f → part_fault packed comps tiles b out at ≡ Some f
unfolding part_fault
fault_start packed comps tiles b out at f start = rw start refl

fault_sot : (packed : Bool) (comps tiles : ℕ) (b : List ℕ) (out : Bool) (at : ℕ) (f : StreamFault) → start_fault comps b at ≡ None → sot_fault tiles b at (sot_in b at) out ≡ Some f → part_fault packed comps tiles b out at ≡ Some f
unfolding part_fault
fault_sot packed comps tiles b out at f start sot = rw (start, sot) refl

fault_header : (packed : Bool) (comps tiles : ℕ) (b : List ℕ) (out : Bool) (at : ℕ) (f : StreamFault) → start_fault comps b at ≡ None → sot_fault tiles b at (sot_in b at) out ≡ None
    → header_fault (kind_of packed (sot_in b at)) comps b (after_sot b at) ≡ Some f → part_fault packed comps tiles b out at ≡ Some f
unfolding part_fault
fault_header packed comps tiles b out at f start sot header = rw (start, sot, header) refl

fault_sod : (packed : Bool) (comps tiles : ℕ) (b : List ℕ) (out : Bool) (at : ℕ) (f : StreamFault) → start_fault comps b at ≡ None → sot_fault tiles b at (sot_in b at) out ≡ None
    → header_fault (kind_of packed (sot_in b at)) comps b (after_sot b at) ≡ None → sod_fault b at (sot_in b at) (part_header packed comps b at).end ≡ Some f → part_fault packed comps tiles b out at ≡ Some f
unfolding part_fault
fault_sod packed comps tiles b out at f start sot header sod = rw (start, sot, header, sod) refl

-- the first violation, case by case

told_siz : (b : List ℕ) (f : StreamFault) → IsInSiz b f → first_fault b ≡ Some f
told_siz b f x =
    let front = after_front b x.siz [] x.begins.rest x.range x.begins.bytes in
    front.first ∙ in_tiles x.siz b (after_siz b) f x.first

told_main : (b : List ℕ) (f : StreamFault) → IsInMain b f → first_fault b ≡ Some f
told_main b f x =
    let comps = length x.siz.comps in
    let start = after_siz b in
    let front = after_front b x.siz x.before x.begins.rest x.front.range x.begins.bytes in
    let place : start + length (all_bytes comps x.before) ≡ length (main_bytes x.siz x.before) = front.place ∙ sym (main_size x.siz x.before) in
    let header = after_segments Main comps b start x.before x.begins.rest f x.front.segments front.there (ap (λ (n : ℕ). segment_fault Main comps b x.before n) place ∙ x.first) in
    front.first ∙ in_body x.siz b start f x.front.few (in_main comps (tile_number x.siz) b start f (in_header comps b start f header))

told_17 : (b : List ℕ) (f : StreamFault) → IsAtFirstSot b f → first_fault b ≡ Some f
told_17 b f x =
    let comps = length x.siz.comps in
    let start = after_siz b in
    let tail = spelling comps (segment.Sot x.sot) ++ x.begins.rest in
    let front = after_front b x.siz x.main tail x.front.range (x.begins.bytes ∙ sot_rest x.siz x.main [] x.sot x.begins.rest ∙ front_rest x.siz x.main [] tail) in
    let place : start + length (all_bytes comps x.main) ≡ length (main_bytes x.siz x.main) = front.place ∙ sym (main_size x.siz x.main) in
    let over = main_over comps b x.main start x.sot x.begins.rest x.front.segments x.range front.there in
    front.first ∙ in_body x.siz b start f x.front.few (in_main comps (tile_number x.siz) b start f
    (in_17 comps b x.main start f over (ap (λ (n : ℕ). broken NO_DEFAULTS n (lacks_default x.main)) place ∙ x.first)))

told_part : (b : List ℕ) (f : StreamFault) → IsAtPart b f → first_fault b ≡ Some f
told_part b f x =
    let packed = has_packed x.main in
    let comps = length x.siz.comps in
    let tiles = tile_number x.siz in
    let parts = placed comps (first_sot x.siz x.main) x.parts in
    let place = length (front_bytes x.siz x.main x.parts) in
    let after = after_all b x.siz x.main x.parts x.begins.rest x.front x.begins.bytes (some_begins packed comps tiles [] (first_sot x.siz x.main) x.parts x.begins.rest x.some x.front.each) in
    after.first f (start_goes comps b place f x.first) (fault_start packed comps tiles b (comes_out_of_turn parts (sot_in b place)) place f x.first)

told_sot : (b : List ℕ) (f : StreamFault) → IsAtSot b f → first_fault b ≡ Some f
told_sot b f x =
    let packed = has_packed x.main in
    let comps = length x.siz.comps in
    let tiles = tile_number x.siz in
    let parts = placed comps (first_sot x.siz x.main) x.parts in
    let place = length (front_bytes x.siz x.main x.parts) in
    let after = after_all b x.siz x.main x.parts (spelling comps (segment.Sot x.sot) ++ x.begins.rest) x.front (x.begins.bytes ∙ sot_rest x.siz x.main x.parts x.sot x.begins.rest)
    (sot_begins packed comps tiles [] (first_sot x.siz x.main) x.parts x.sot x.begins.rest x.front.each x.range) in
    let read = sot_read comps b place x.sot x.begins.rest x.range after.there in
    let P : Sot → Type 0 = λ s. sot_fault tiles b place s (comes_out_of_turn parts s) ≡ Some f in
    after.first f read.goes (fault_sot packed comps tiles b (comes_out_of_turn parts (sot_in b place)) place f read.clear (subst P (sym read.value) x.first))

-- the header of the tile-part at a place
record HeaderAt (b : List ℕ) (siz : Siz) (main : List Segment) (parts : List TilePart) (sot : Sot) (tail : List ℕ) : Type 0 where
  pub after : AfterParts b siz main parts (spelling (length siz.comps) (segment.Sot sot) ++ tail)
  pub read : SotRead (length siz.comps) b (length (front_bytes siz main parts)) sot tail
  pub clear : sot_fault (tile_number siz) b (length (front_bytes siz main parts)) (sot_in b (length (front_bytes siz main parts)))
      (comes_out_of_turn (placed (length siz.comps) (first_sot siz main) parts) (sot_in b (length (front_bytes siz main parts)))) ≡ None

at_header : (b : List ℕ) (siz : Siz) (main : List Segment) (parts : List TilePart) (sot : Sot) (before : List Segment) (tail : List ℕ) → IsHeader b siz main parts sot before
    → b ≡ front_bytes siz main parts ++ (spelling (length siz.comps) (segment.Sot sot) ++ tail) → HeaderAt b siz main parts sot tail
at_header b siz main parts sot before tail is h =
    let packed = has_packed main in
    let comps = length siz.comps in
    let tiles = tile_number siz in
    let place = length (front_bytes siz main parts) in
    let after = after_all b siz main parts (spelling comps (segment.Sot sot) ++ tail) is.front h (sot_begins packed comps tiles [] (first_sot siz main) parts sot tail is.front.each is.range) in
    let read = sot_read comps b place sot tail is.range after.there in
    let P : Sot → Type 0 = λ s. sot_fault tiles b place s (comes_out_of_turn (placed comps (first_sot siz main) parts) s) ≡ None in
    record { after = after; read = read; clear = subst P (sym read.value) is.clear }

told_header : (b : List ℕ) (f : StreamFault) → IsInHeader b f → first_fault b ≡ Some f
told_header b f x =
    let packed = has_packed x.main in
    let comps = length x.siz.comps in
    let tiles = tile_number x.siz in
    let parts = placed comps (first_sot x.siz x.main) x.parts in
    let place = length (front_bytes x.siz x.main x.parts) in
    let at = at_header b x.siz x.main x.parts x.sot x.before (all_bytes comps x.before ++ x.begins.rest) x.front (x.begins.bytes ∙ header_rest x.siz x.main x.parts x.sot x.before x.begins.rest) in
    let here : segment_fault (kind_of packed x.sot) comps b x.before (place + 12 + length (all_bytes comps x.before)) ≡ Some f =
    ap (λ (n : ℕ). segment_fault (kind_of packed x.sot) comps b x.before n) (sym (header_size x.siz x.main x.parts x.sot x.before)) ∙ x.first in
    let header : header_fault (kind_of packed (sot_in b place)) comps b (after_sot b place) ≡ Some f =
    ap (λ (s : Sot). header_fault (kind_of packed s) comps b (after_sot b place)) at.read.value ∙ ap (λ (n : ℕ). header_fault (kind_of packed x.sot) comps b n) at.read.after
    ∙ after_segments (kind_of packed x.sot) comps b (place + 12) x.before x.begins.rest f x.front.segments at.read.there here in
    at.after.first f at.read.goes (fault_header packed comps tiles b (comes_out_of_turn parts (sot_in b place)) place f at.read.clear at.clear header)

told_sod : (b : List ℕ) (f : StreamFault) → IsAtSod b f → first_fault b ≡ Some f
told_sod b f x =
    let packed = has_packed x.main in
    let comps = length x.siz.comps in
    let tiles = tile_number x.siz in
    let parts = placed comps (first_sot x.siz x.main) x.parts in
    let place = length (front_bytes x.siz x.main x.parts) in
    let tail = spelling comps segment.Sod ++ x.begins.rest in
    let bytes = x.begins.bytes ∙ append_assoc (header_bytes x.siz x.main x.parts x.sot x.before) (spelling comps segment.Sod) x.begins.rest ∙ header_rest x.siz x.main x.parts x.sot x.before tail in
    let at = at_header b x.siz x.main x.parts x.sot x.before (all_bytes comps x.before ++ tail) x.front bytes in
    let header : header_fault (kind_of packed (sot_in b place)) comps b (after_sot b place) ≡ None =
    ap (λ (s : Sot). header_fault (kind_of packed s) comps b (after_sot b place)) at.read.value ∙ ap (λ (n : ℕ). header_fault (kind_of packed x.sot) comps b n) at.read.after
    ∙ header_clear (kind_of packed x.sot) comps b x.before (place + 12) segment.Sod x.begins.rest x.front.segments tt refl (sod_stands packed x.sot) at.read.there in
    let is : part_header packed comps b place ≡ record { segments = x.before; end = place + 12 + length (all_bytes comps x.before) } =
    ap (λ (s : Sot). header_at (kind_of packed s) comps b (after_sot b place)) at.read.value ∙ ap (λ (n : ℕ). header_at (kind_of packed x.sot) comps b n) at.read.after
    ∙ header_read (kind_of packed x.sot) comps b x.before [] (place + 12) segment.Sod x.begins.rest x.front.segments tt refl (sod_stands packed x.sot) at.read.there in
    let end : (part_header packed comps b place).end ≡ length (header_bytes x.siz x.main x.parts x.sot x.before) = ap (λ (h : Header). h.end) is ∙ sym (header_size x.siz x.main x.parts x.sot x.before) in
    let sod : sod_fault b place (sot_in b place) (part_header packed comps b place).end ≡ Some f =
    ap (λ (s : Sot). sod_fault b place s (part_header packed comps b place).end) at.read.value ∙ ap (λ (n : ℕ). sod_fault b place x.sot n) end ∙ x.first in
    at.after.first f at.read.goes (fault_sod packed comps tiles b (comes_out_of_turn parts (sot_in b place)) place f at.read.clear at.clear header sod)

-- after a whole file

record WholeRead (b : List ℕ) (siz : Siz) (main : List Segment) (parts : List TilePart) (rest : List ℕ) : Type 0 where
  pub front : AfterSiz b siz main (flat_map (part_bytes (length siz.comps)) parts ++ (0xFF ∷ EOC ∷ rest))
  pub over : BodyOver (length siz.comps) (tile_number siz) b main parts (after_siz b)
  pub end : after_siz b + length (all_bytes (length siz.comps) main) + length (flat_map (part_bytes (length siz.comps)) parts) ≡ length (front_bytes siz main parts)

whole_read : (b : List ℕ) (siz : Siz) (main : List Segment) (parts : List TilePart) (rest : List ℕ) → IsWhole b siz main parts rest → WholeRead b siz main parts rest
whole_read b siz main parts rest is =
    let packed = has_packed main in
    let comps = length siz.comps in
    let tail = flat_map (part_bytes comps) parts ++ (0xFF ∷ EOC ∷ rest) in
    let start = after_siz b in
    let front = after_front b siz main tail is.front.range (is.bytes ∙ sym (main_rest siz main tail)) in
    let P : ℕ → Type 0 = λ n. AreTileParts packed comps (tile_number siz) rest [] n parts in
    record {
      front = front;
      over = body_over comps (tile_number siz) b rest main parts start is.some (subst P (sym front.place) is.each) is.front.segments is.defaults front.there;
      end = ap (λ (n : ℕ). n + length (flat_map (part_bytes comps) parts)) front.place ∙ sym (front_size siz main parts);
    }

in_24 : (comps tiles : ℕ) (b : List ℕ) (main : List Segment) (parts : List TilePart) (start : ℕ) (f : StreamFault) → BodyOver comps tiles b main parts start
    → broken NO_PART (start + length (all_bytes comps main) + length (flat_map (part_bytes comps) parts)) (lacks_part (placed comps (start + length (all_bytes comps main)) parts) tiles) ≡ Some f
    → body_fault comps tiles b start ≡ Some f
unfolding body_fault
in_24 comps tiles b main parts start f over h =
    let lacks = lacks_test comps tiles b start in
    let shares = shares_test comps tiles b start in
    let found : lacks ≡ Some f =
    ap (λ (n : ℕ). broken NO_PART n (lacks_part (parts_after comps tiles b start).parts tiles)) over.end
    ∙ ap (λ (x : List PlacedPart). broken NO_PART (start + length (all_bytes comps main) + length (flat_map (part_bytes comps) parts)) (lacks_part x tiles)) over.all ∙ h in
    none_before (main_fault comps b start) (option_or (parts_test comps tiles b start) (option_or lacks shares)) over.main_clear
    ∙ none_before (parts_test comps tiles b start) (option_or lacks shares) over.parts_clear
    ∙ some_first lacks shares f found

in_37 : (comps tiles : ℕ) (b : List ℕ) (main : List Segment) (parts : List TilePart) (start : ℕ) (f : StreamFault) → BodyOver comps tiles b main parts start
    → lacks_part (placed comps (start + length (all_bytes comps main)) parts) tiles ≡ false
    → shares_fault b (packed_from comps start main) (placed comps (start + length (all_bytes comps main)) parts) ≡ Some f → body_fault comps tiles b start ≡ Some f
unfolding body_fault
in_37 comps tiles b main parts start f over each h =
    let lacks = lacks_test comps tiles b start in
    let shares = shares_test comps tiles b start in
    let none : lacks ≡ None =
    broken_false NO_PART (parts_after comps tiles b start).end (lacks_part (parts_after comps tiles b start).parts tiles) (ap (λ (x : List PlacedPart). lacks_part x tiles) over.all ∙ each) in
    none_before (main_fault comps b start) (option_or (parts_test comps tiles b start) (option_or lacks shares)) over.main_clear
    ∙ none_before (parts_test comps tiles b start) (option_or lacks shares) over.parts_clear
    ∙ none_before lacks shares none ∙ shares_are comps tiles b main parts start over ∙ h

told_24 : (b : List ℕ) (f : StreamFault) → IsAtEoc b f → first_fault b ≡ Some f
told_24 b f x =
    let comps = length x.siz.comps in
    let tiles = tile_number x.siz in
    let start = after_siz b in
    let read = whole_read b x.siz x.main x.parts x.rest x.whole in
    let here : broken NO_PART (start + length (all_bytes comps x.main) + length (flat_map (part_bytes comps) x.parts)) (lacks_part (placed comps (start + length (all_bytes comps x.main)) x.parts) tiles) ≡ Some f =
    ap (λ (n : ℕ). broken NO_PART n (lacks_part (placed comps (start + length (all_bytes comps x.main)) x.parts) tiles)) read.end
    ∙ ap (λ (n : ℕ). broken NO_PART (length (front_bytes x.siz x.main x.parts)) (lacks_part (placed comps n x.parts) tiles)) read.front.place ∙ x.first in
    read.front.first ∙ in_body x.siz b start f x.whole.front.few (in_24 comps tiles b x.main x.parts start f read.over here)

-- the PPM stand where SIZ ends, and the tile-parts where the main header does
own_packed : (b : List ℕ) (siz : Siz) (main : List Segment) (parts : List TilePart) (rest : List ℕ) → WholeRead b siz main parts rest → packed_from (length siz.comps) (after_siz b) main ≡ main_packed siz main
own_packed b siz main parts rest read =
    let same : after_siz b ≡ main_start siz = omega (arith, read.front.place) in
    ap (λ (n : ℕ). packed_from (length siz.comps) n main) same

told_37 : (b : List ℕ) (f : StreamFault) → IsUnshared b f → first_fault b ≡ Some f
told_37 b f x =
    let comps = length x.siz.comps in
    let tiles = tile_number x.siz in
    let start = after_siz b in
    let read = whole_read b x.siz x.main x.parts x.rest x.whole in
    let here : shares_fault b (packed_from comps start x.main) (placed comps (start + length (all_bytes comps x.main)) x.parts) ≡ Some f =
    ap (λ (p : List PackedSegment). shares_fault b p (placed comps (start + length (all_bytes comps x.main)) x.parts)) (own_packed b x.siz x.main x.parts x.rest read)
    ∙ ap (λ (n : ℕ). shares_fault b (main_packed x.siz x.main) (placed comps n x.parts)) read.front.place ∙ x.first in
    read.front.first ∙ in_body x.siz b start f x.whole.front.few
    (in_37 comps tiles b x.main x.parts start f read.over (ap (λ (n : ℕ). lacks_part (placed comps n x.parts) tiles) read.front.place ∙ x.each) here)

told_9 : (b : List ℕ) (f : StreamFault) → IsShort b f → first_fault b ≡ Some f
told_9 b f x =
    let comps = length x.siz.comps in
    let tiles = tile_number x.siz in
    let start = after_siz b in
    let read = whole_read b x.siz x.main x.parts x.rest x.whole in
    let all : (parts_after comps tiles b start).parts ≡ placed comps (first_sot x.siz x.main) x.parts = read.over.all ∙ ap (λ (n : ℕ). placed comps n x.parts) read.front.place in
    let own = own_packed b x.siz x.main x.parts x.rest read in
    let made = tiles_of x.main (with_shares b (main_packed x.siz x.main) (placed comps (first_sot x.siz x.main) x.parts)) tiles in
    let shared : shares_fault b (packed_from comps start x.main) (placed comps (start + length (all_bytes comps x.main)) x.parts) ≡ None =
    ap (λ (p : List PackedSegment). shares_fault b p (placed comps (start + length (all_bytes comps x.main)) x.parts)) own
    ∙ ap (λ (n : ℕ). shares_fault b (main_packed x.siz x.main) (placed comps n x.parts)) read.front.place ∙ x.packed in
    let body = body_read comps tiles b x.main x.parts start read.over (ap (λ (n : ℕ). lacks_part (placed comps n x.parts) tiles) read.front.place ∙ x.each) shared in
    let same = stream_made x.siz b start x.main (placed comps (first_sot x.siz x.main) x.parts) made read.over.segments all
    (ap (λ (p : List PackedSegment). tiles_of x.main (with_shares b p (placed comps (first_sot x.siz x.main) x.parts)) tiles) (sym own)) in
    read.front.first ∙ in_parameters x.siz b start (record { siz = x.siz; main = x.main; tiles = made }) f x.whole.front.few body same
    (some_first (entries_fault x.main comps made) (planes_fault x.main comps made) f x.first)

told_4 : (b : List ℕ) (f : StreamFault) → IsOver b f → first_fault b ≡ Some f
told_4 b f x =
    let s = x.stream in
    (is_read b s x.spelled).first ∙ none_before (tiles_fault s.siz) (planes_fault s.main (length s.siz.comps) s.tiles) x.few ∙ x.first

told_front : (b : List ℕ) (f : StreamFault) → front_fault b ≡ Some f → first_fault b ≡ Some f
unfolding first_fault
told_front b f h = some_first (front_fault b) (later_fault (siz_of b) b (after_siz b)) f h

-- what is violated first is what the reader finds first
pub told_is_first : (b : List ℕ) (f : StreamFault) → IsFirst b f → first_fault b ≡ Some f
told_is_first b f (inl x) = told_front b f x
told_is_first b f (inr (inl x)) = told_siz b f x
told_is_first b f (inr (inr (inl x))) = told_main b f x
told_is_first b f (inr (inr (inr (inl x)))) = told_17 b f x
told_is_first b f (inr (inr (inr (inr (inl x))))) = told_part b f x
told_is_first b f (inr (inr (inr (inr (inr (inl x)))))) = told_sot b f x
told_is_first b f (inr (inr (inr (inr (inr (inr (inl x))))))) = told_header b f x
told_is_first b f (inr (inr (inr (inr (inr (inr (inr (inl x)))))))) = told_sod b f x
told_is_first b f (inr (inr (inr (inr (inr (inr (inr (inr (inl x))))))))) = told_24 b f x
told_is_first b f (inr (inr (inr (inr (inr (inr (inr (inr (inr (inl x)))))))))) = told_37 b f x
told_is_first b f (inr (inr (inr (inr (inr (inr (inr (inr (inr (inr (inl x))))))))))) = told_9 b f x
told_is_first b f (inr (inr (inr (inr (inr (inr (inr (inr (inr (inr (inr x))))))))))) = told_4 b f x

fault_of_some : (e g : StreamFault) → Some e ≡ Some g → e ≡ g
fault_of_some e g h = cc

pub one_first : (b : List ℕ) (f g : StreamFault) → IsFirst b f → IsFirst b g → f ≡ g
one_first b f g one other = fault_of_some f g (sym (told_is_first b f one) ∙ told_is_first b g other)

pub never_both : (b : List ℕ) (f : StreamFault) (s : Stream) → IsFirst b f → IsRead b s → ⊥
never_both b f s first read =
    let e : None ≡ Some f = sym (clear_limits b s read) ∙ told_is_first b f first in cc
