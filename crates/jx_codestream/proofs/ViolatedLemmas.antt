-- What the reader finds first is violated first.
use Rattle.std.proofs.Common.{◌≡◌, ◌∙◌, ◌<◌, ◌+◌, ℕ, zero, suc, Bool, true, false, arith, List, [], ◌∷◌, ◌++◌, length, drop, refl, sym, ap, subst, Option, Some, None, Result, Ok, Err, cond, ◌⊎◌, inl, inr, add-zero}
use Rattle.std.specs.List.{flat_map}
use Rattle.std.specs.Option.{option_or}
use Rattle.std.proofs.lemmas.List.{append-nil, append_assoc, drop-drop, length-append}
use Rattle.jx_marker.specs.Codes.{EOC}
use Rattle.jx_marker.specs.declared.Segment.{Segment}
use Rattle.jx_marker.specs.declared.Segment.TheVariants as segment
use Rattle.jx_marker.specs.declared.Siz.{Siz}
use Rattle.jx_marker.specs.declared.Sot.{Sot}
use Rattle.jx_marker.specs.Segments.{spelling, segment_at, size_at}
use Rattle.jx_marker.specs.Ranges.{AreBytes, SizInRange, SotInRange}
use Rattle.jx_marker.specs.Laws.{BeginsWith}
use Rattle.jx_marker.specs.RuleNumbers.{NO_DEFAULTS, NO_PART}
use Rattle.jx_codestream.specs.declared.faults.StreamFault.{StreamFault}
use Rattle.jx_codestream.specs.declared.faults.StreamFault.TheVariants as fault
use Rattle.jx_codestream.specs.declared.headers.HeaderKind.TheVariants.{Main}
use Rattle.jx_codestream.specs.declared.parts.PlacedPart.{PlacedPart}
use Rattle.jx_codestream.specs.declared.Stream.{Stream}
use Rattle.jx_codestream.specs.Faults.{broken, IsCause, Answers}
use Rattle.jx_codestream.specs.Headers.{has_packed, stands_in_main, ends_header, segment_fault, header_fault}
use Rattle.jx_codestream.specs.declared.packed.PackedSegment.{PackedSegment}
use Rattle.jx_codestream.specs.PackedHeaders.{shares_fault, with_shares}
use Rattle.jx_codestream.specs.Parts.{marker_at, sot_in, after_sot, kind_of, comes_out_of_turn, start_fault, sot_fault, sod_fault, part_header, part_at, part_fault, fault_after, end_of_part, parts_stop, Parts, longest_parts, parts_fault}
use Rattle.jx_codestream.specs.Tiles.{tiles_of}
use Rattle.jx_codestream.specs.Params.{entries_fault, planes_fault}
use Rattle.jx_codestream.specs.First.{tile_number, siz_of, after_siz, front_fault, tiles_fault, lacks_default, main_header, main_fault, packed_after, parts_after, lacks_part, body_fault, stream_in, parameters_fault, later_fault, first_fault}
use Rattle.jx_codestream.specs.Spells.{TilePart, all_bytes, part_bytes, part_of, placed, IsTilePart, first_sot, main_packed}
use Rattle.jx_codestream.specs.Read.{IsRead}
use Rattle.jx_codestream.specs.FirstViolated.{main_bytes, front_bytes, header_bytes, IsMain, AreNamed, AreParts, sot_first, IsHeader, IsInSiz, IsInMain, IsAtFirstSot, IsAtPart, IsAtSot, IsInHeader, IsAtSod, IsAtEoc, IsUnshared, IsShort, IsOver, IsFirst}
use Rattle.jx_codestream.proofs.PartLemmas.{sot_stands, parts_stopped, parts_going, stop_at_eoc, goes_clear}
use Rattle.jx_codestream.proofs.SpellLemmas.{is_clear, begins_at, takes, header_spelled, header_ends, start_rules, sod_ends, part_written, goes_on_at}
use Rattle.jx_codestream.proofs.WholeLemmas.{FrontClear, front_is_clear, body_is_clear, front_spelled, MainSpelled, main_spelled, WholeSpelled, packed_same, shape_by, up_to_eoc, stream_shape, clear_spelled}
use Rattle.jx_codestream.proofs.FirstLemmas.{parts_test, lacks_test, shares_test}
use Rattle.jx_codestream.proofs.PartsReadLemmas.{sot_read, sot_size}
use Rattle.jx_codestream.proofs.UniqueLemmas.{read_spelled}
use Rattle.jx_codestream.proofs.FrontLemmas.{main_size, front_size, header_size, main_rest, front_rest, sot_rest, header_rest, told_is_first}
use Rattle.std.proofs.lemmas.Bool.{cases_Bool}

-- the first of two is the one or, where that is none, the other
either_some : (x y : Option StreamFault) (f : StreamFault) → option_or x y ≡ Some f → (x ≡ Some f) ⊎ ((x ≡ None) × (y ≡ Some f))
either_some None y f h = inr (refl, h)
either_some (Some e) y f h = inl h

-- tile-parts that were walked over up to a place where no EOC stands

record PartsNamed (packed : Bool) (comps tiles : ℕ) (b : List ℕ) (before : List PlacedPart) (at : ℕ) (res : Parts) : Type 0 where
  pub new : List TilePart
  pub all : res.parts ≡ before ++ placed comps at new
  pub spelled : drop at b ≡ flat_map (part_bytes comps) new ++ drop res.end b
  pub are : AreNamed packed comps tiles before at new
  pub size : res.end ≡ at + length (flat_map (part_bytes comps) new)

named_none : (packed : Bool) (comps tiles : ℕ) (b : List ℕ) (before : List PlacedPart) (at : ℕ) → PartsNamed packed comps tiles b before at (record { parts = before; end = at })
named_none packed comps tiles b before at = record { new = []; all = sym (append-nil before); spelled = refl; are = tt; size = omega arith }

named_and : (packed : Bool) (comps tiles : ℕ) (b : List ℕ) (before : List PlacedPart) (at : ℕ) (res : Parts) (p : TilePart) → IsTilePart packed comps tiles before p → p.sot.psot ≡ length (part_bytes comps p)
    → drop at b ≡ part_bytes comps p ++ drop (at + length (part_bytes comps p)) b
    → PartsNamed packed comps tiles b (before ++ part_of comps at p ∷ []) (at + length (part_bytes comps p)) res → PartsNamed packed comps tiles b before at res
named_and packed comps tiles b before at res p is names spelled later = record {
  new = p ∷ later.new;
  all = later.all ∙ append_assoc before (part_of comps at p ∷ []) (placed comps (at + length (part_bytes comps p)) later.new);
  spelled = spelled ∙ ap (λ (x : List ℕ). part_bytes comps p ++ x) later.spelled ∙ sym (append_assoc (part_bytes comps p) (flat_map (part_bytes comps) later.new) (drop res.end b));
  are = (is, names, later.are);
  size = later.size ∙ omega (arith, length-append (part_bytes comps p) (flat_map (part_bytes comps) later.new));
}

named_more : (packed : Bool) (comps tiles : ℕ) (b : List ℕ) (n : ℕ) (before : List PlacedPart) (at : ℕ) → AreBytes b → marker_at b at EOC ≡ false → fault_after packed comps tiles b before at ≡ None
    → (marker_at b (longest_parts packed comps tiles b n (before ++ part_at packed comps b at ∷ []) (end_of_part (part_at packed comps b at))).end EOC ≡ false
    → PartsNamed packed comps tiles b (before ++ part_at packed comps b at ∷ []) (end_of_part (part_at packed comps b at)) (longest_parts packed comps tiles b n (before ++ part_at packed comps b at ∷ []) (end_of_part (part_at packed comps b at))))
    → marker_at b (longest_parts packed comps tiles b n (before ++ part_at packed comps b at ∷ []) (end_of_part (part_at packed comps b at))).end EOC ≡ false
    → PartsNamed packed comps tiles b before at (longest_parts packed comps tiles b n (before ++ part_at packed comps b at ∷ []) (end_of_part (part_at packed comps b at)))
named_more packed comps tiles b n before at are goes none later lacks =
    let here = part_written packed comps tiles b before at are goes none in
    let p = here.written in
    let next = end_of_part (part_at packed comps b at) in
    let res = longest_parts packed comps tiles b n (before ++ part_at packed comps b at ∷ []) next in
    let spelled : drop at b ≡ part_bytes comps p ++ drop (at + length (part_bytes comps p)) b = here.spelled ∙ ap (λ (m : ℕ). part_bytes comps p ++ drop m b) here.end in
    elim here.length [
      | inl names ↦
          let P : ℕ → Type 0 = λ m. PartsNamed packed comps tiles b (before ++ part_at packed comps b at ∷ []) m res in
          let Q : PlacedPart → Type 0 = λ x. PartsNamed packed comps tiles b (before ++ x ∷ []) (at + length (part_bytes comps p)) res in
          named_and packed comps tiles b before at res p here.is names spelled (subst Q here.placed (subst P here.end (later lacks)))
      | inr last ↦
          let eoc : marker_at b next EOC ≡ true = ap (λ (m : ℕ). marker_at b m EOC) last.1 ∙ last.2 in
          let stop = parts_stopped packed comps tiles b n (before ++ part_at packed comps b at ∷ []) next (stop_at_eoc packed comps tiles b (before ++ part_at packed comps b at ∷ []) next eoc) in
          let wrong : true ≡ false = sym eoc ∙ sym (ap (λ (x : Parts). marker_at b x.end EOC) stop) ∙ lacks in
          absurd (cc)
    ]

parts_named : (packed : Bool) (comps tiles : ℕ) (b : List ℕ) (n : ℕ) (before : List PlacedPart) (at : ℕ) → AreBytes b → marker_at b (longest_parts packed comps tiles b n before at).end EOC ≡ false
    → PartsNamed packed comps tiles b before at (longest_parts packed comps tiles b n before at)
unfolding longest_parts
parts_named packed comps tiles b zero before at are = λ lacks. named_none packed comps tiles b before at
parts_named packed comps tiles b (suc n) before at are =
    let P : Parts → Type 0 = λ x. marker_at b x.end EOC ≡ false → PartsNamed packed comps tiles b before at x in
    elim (cases_Bool (parts_stop packed comps tiles b before at)) [
      | inl t ↦ subst P (sym (parts_stopped packed comps tiles b (suc n) before at t)) (λ lacks. named_none packed comps tiles b before at)
      | inr f ↦ subst P (sym (parts_going packed comps tiles b n before at f))
          (named_more packed comps tiles b n before at are (goes_on_at packed comps tiles b before at f) (goes_clear packed comps tiles b before at f)
          (parts_named packed comps tiles b n (before ++ part_at packed comps b at ∷ []) (end_of_part (part_at packed comps b at)) are))
    ]

-- a SOT that stands at a place
record SotThere (comps : ℕ) (b : List ℕ) (at : ℕ) : Type 0 where
  pub sot : Sot
  pub range : SotInRange sot
  pub rest : List ℕ
  pub spelled : drop at b ≡ spelling comps (segment.Sot sot) ++ rest

ends_main : (s : Segment) → ends_header s ≡ true → stands_in_main s ≡ true → (sot : Sot) × (s ≡ segment.Sot sot)
ends_main (segment.Sot sot) ends stands = (sot, refl)
ends_main segment.Sod ends stands = absurd (cc)
ends_main _ ends stands = absurd (cc)

-- the main header in which nothing is violated ends with one
first_there : (comps : ℕ) (b : List ℕ) (start : ℕ) → AreBytes b → header_fault Main comps b start ≡ None → SotThere comps b (main_header comps b start).end
first_there comps b start are h =
    let header = main_header comps b start in
    let s = segment_at comps (drop header.end b) in
    let clear = is_clear Main comps b header.segments header.end h in
    let is = ends_main s (header_ends Main comps b start h) clear.stands in
    let P : Segment → Type 0 = λ x. BeginsWith comps (drop header.end b) x (drop (size_at (drop header.end b)) (drop header.end b)) in
    let begins = subst P is.1 (begins_at comps b header.end are clear.rules) in
    record { sot = is.0; range = begins.range; rest = drop (size_at (drop header.end b)) (drop header.end b); spelled = begins.spelled }

-- what is violated in a tile-part, in the order of its tests

abbrev InPart : Bool → ℕ → ℕ → List ℕ → Bool → ℕ → StreamFault → Type 0
InPart packed comps tiles b out at f =
    (start_fault comps b at ≡ Some f) ⊎ ((start_fault comps b at ≡ None) × ((sot_fault tiles b at (sot_in b at) out ≡ Some f) ⊎ ((sot_fault tiles b at (sot_in b at) out ≡ None)
    × ((header_fault (kind_of packed (sot_in b at)) comps b (after_sot b at) ≡ Some f) ⊎ ((header_fault (kind_of packed (sot_in b at)) comps b (after_sot b at) ≡ None)
    × (sod_fault b at (sot_in b at) (part_header packed comps b at).end ≡ Some f))))))

third_of : (w x y z : Option StreamFault) (f : StreamFault) → option_or w (option_or x (option_or y z)) ≡ Some f
    → (w ≡ Some f) ⊎ ((w ≡ None) × ((x ≡ Some f) ⊎ ((x ≡ None) × ((y ≡ Some f) ⊎ ((y ≡ None) × (z ≡ Some f))))))
third_of None None y z f h = inr (refl, inr (refl, either_some y z f h))
third_of None (Some e) y z f h = inr (refl, inl h)
third_of (Some e) x y z f h = inl h

in_part : (packed : Bool) (comps tiles : ℕ) (b : List ℕ) (out : Bool) (at : ℕ) (f : StreamFault) → part_fault packed comps tiles b out at ≡ Some f → InPart packed comps tiles b out at f
unfolding part_fault
in_part packed comps tiles b out at f h =
    third_of (start_fault comps b at) (sot_fault tiles b at (sot_in b at) out) (header_fault (kind_of packed (sot_in b at)) comps b (after_sot b at)) (sod_fault b at (sot_in b at) (part_header packed comps b at).end) f h

-- after a main header and tile-parts

record UpTo (b : List ℕ) (siz : Siz) (main : List Segment) (parts : List TilePart) : Type 0 where
  pub are : AreParts siz main parts
  pub bytes : b ≡ front_bytes siz main parts ++ drop (length (front_bytes siz main parts)) b
  pub first : SotThere (length siz.comps) b (first_sot siz main)
  pub goes : marker_at b (length (front_bytes siz main parts)) EOC ≡ false

some_or_clear : (b : List ℕ) (siz : Siz) (main : List Segment) (parts : List TilePart) → SotThere (length siz.comps) b (first_sot siz main)
    → (0 < length parts) ⊎ (start_fault (length siz.comps) b (length (front_bytes siz main parts)) ≡ None)
some_or_clear b siz main [] there =
    let read = sot_read (length siz.comps) b (first_sot siz main) there.sot there.rest there.range there.spelled in
    inr (ap (λ (n : ℕ). start_fault (length siz.comps) b n) (front_size siz main [] ∙ add-zero (first_sot siz main)) ∙ read.clear)
some_or_clear b siz main (p ∷ ps) there = inl (omega arith)

part_told : (b : List ℕ) (siz : Siz) (main : List Segment) (parts : List TilePart) (f : StreamFault) → UpTo b siz main parts
    → start_fault (length siz.comps) b (length (front_bytes siz main parts)) ≡ Some f → IsAtPart b f
part_told b siz main parts f up h =
    let place = length (front_bytes siz main parts) in
    elim (some_or_clear b siz main parts up.first) [
      | inl some ↦ record { siz = siz; main = main; parts = parts; front = up.are; some = some; begins = record { rest = drop place b; bytes = up.bytes }; first = h }
      | inr clear ↦ let wrong : None ≡ Some f = sym clear ∙ h in absurd (cc)
    ]

-- the SOT of the tile-part at a place
record SotSpelled (comps : ℕ) (b : List ℕ) (at : ℕ) : Type 0 where
  pub range : SotInRange (sot_in b at)
  pub after : after_sot b at ≡ at + 12
  pub spelled : drop at b ≡ spelling comps (segment.Sot (sot_in b at)) ++ drop (after_sot b at) b

sot_spelled : (comps : ℕ) (b : List ℕ) (at : ℕ) → AreBytes b → marker_at b at EOC ≡ false → start_fault comps b at ≡ None → SotSpelled comps b at
sot_spelled comps b at are goes clear =
    let start = start_rules comps b at clear goes in
    let sot = sot_in b at in
    let P : Segment → Type 0 = λ s. BeginsWith comps (drop at b) s (drop (size_at (drop at b)) (drop at b)) in
    let begins = subst P (sot_stands comps b at start.0) (begins_at comps b at are start.1) in
    let size = takes comps (drop at b) (drop (size_at (drop at b)) (drop at b)) (segment.Sot sot) begins in
    record {
      range = begins.range;
      after = ap (λ (n : ℕ). at + n) (size ∙ sot_size comps sot);
      spelled = begins.spelled ∙ ap (λ (x : List ℕ). spelling comps (segment.Sot sot) ++ x) (drop-drop (size_at (drop at b)) at b);
    }

module _ (b : List ℕ) (siz : Siz) (main : List Segment) (parts : List TilePart) (f : StreamFault) (are : AreBytes b) (up : UpTo b siz main parts)
    (start : start_fault (length siz.comps) b (length (front_bytes siz main parts)) ≡ None) where
  there : SotSpelled (length siz.comps) b (length (front_bytes siz main parts))
  there = sot_spelled (length siz.comps) b (length (front_bytes siz main parts)) are up.goes start

  sot_told : sot_first b siz main parts (sot_in b (length (front_bytes siz main parts))) ≡ Some f → IsAtSot b f
  sot_told h =
      let at = length (front_bytes siz main parts) in
      let sot = sot_in b at in
      let rest = drop (after_sot b at) b in
      record {
        siz = siz;
        main = main;
        parts = parts;
        sot = sot;
        front = up.are;
        range = there.range;
        begins = record { rest = rest; bytes = up.bytes ∙ ap (λ (x : List ℕ). front_bytes siz main parts ++ x) there.spelled ∙ sym (sot_rest siz main parts sot rest) };
        first = h;
      }

  -- the header after it
  header_there : drop (after_sot b (length (front_bytes siz main parts))) b
      ≡ all_bytes (length siz.comps) (part_header (has_packed main) (length siz.comps) b (length (front_bytes siz main parts))).segments ++ drop (part_header (has_packed main) (length siz.comps) b (length (front_bytes siz main parts))).end b
  header_there = (header_spelled (kind_of (has_packed main) (sot_in b (length (front_bytes siz main parts)))) (length siz.comps) b (after_sot b (length (front_bytes siz main parts))) are).spelled

  header_place : (part_header (has_packed main) (length siz.comps) b (length (front_bytes siz main parts))).end
      ≡ length (header_bytes siz main parts (sot_in b (length (front_bytes siz main parts))) (part_header (has_packed main) (length siz.comps) b (length (front_bytes siz main parts))).segments)
  header_place =
      let comps = length siz.comps in
      let at = length (front_bytes siz main parts) in
      let before = (part_header (has_packed main) comps b at).segments in
      (header_spelled (kind_of (has_packed main) (sot_in b at)) comps b (after_sot b at) are).size ∙ ap (λ (n : ℕ). n + length (all_bytes comps before)) there.after ∙ sym (header_size siz main parts (sot_in b at) before)

  header_front : b ≡ header_bytes siz main parts (sot_in b (length (front_bytes siz main parts))) (part_header (has_packed main) (length siz.comps) b (length (front_bytes siz main parts))).segments
      ++ drop (part_header (has_packed main) (length siz.comps) b (length (front_bytes siz main parts))).end b
  header_front =
      let comps = length siz.comps in
      let at = length (front_bytes siz main parts) in
      let sot = sot_in b at in
      let header = part_header (has_packed main) comps b at in
      up.bytes ∙ ap (λ (x : List ℕ). front_bytes siz main parts ++ x) (there.spelled ∙ ap (λ (x : List ℕ). spelling comps (segment.Sot sot) ++ x) header_there)
      ∙ sym (header_rest siz main parts sot header.segments (drop header.end b))

  is_header : sot_first b siz main parts (sot_in b (length (front_bytes siz main parts))) ≡ None
      → IsHeader b siz main parts (sot_in b (length (front_bytes siz main parts))) (part_header (has_packed main) (length siz.comps) b (length (front_bytes siz main parts))).segments
  is_header clear = record {
    front = up.are;
    range = there.range;
    clear = clear;
    segments = (header_spelled (kind_of (has_packed main) (sot_in b (length (front_bytes siz main parts)))) (length siz.comps) b (after_sot b (length (front_bytes siz main parts))) are).are;
  }

  header_told : sot_first b siz main parts (sot_in b (length (front_bytes siz main parts))) ≡ None
      → header_fault (kind_of (has_packed main) (sot_in b (length (front_bytes siz main parts)))) (length siz.comps) b (after_sot b (length (front_bytes siz main parts))) ≡ Some f → IsInHeader b f
  header_told clear h =
      let comps = length siz.comps in
      let at = length (front_bytes siz main parts) in
      let header = part_header (has_packed main) comps b at in
      record {
        siz = siz;
        main = main;
        parts = parts;
        sot = sot_in b at;
        before = header.segments;
        front = is_header clear;
        begins = record { rest = drop header.end b; bytes = header_front };
        first = ap (λ (n : ℕ). segment_fault (kind_of (has_packed main) (sot_in b at)) comps b header.segments n) (sym header_place) ∙ h;
      }

  sod_told : sot_first b siz main parts (sot_in b (length (front_bytes siz main parts))) ≡ None
      → header_fault (kind_of (has_packed main) (sot_in b (length (front_bytes siz main parts)))) (length siz.comps) b (after_sot b (length (front_bytes siz main parts))) ≡ None
      → sod_fault b (length (front_bytes siz main parts)) (sot_in b (length (front_bytes siz main parts))) (part_header (has_packed main) (length siz.comps) b (length (front_bytes siz main parts))).end ≡ Some f → IsAtSod b f
  sod_told clear none h =
      let comps = length siz.comps in
      let at = length (front_bytes siz main parts) in
      let sot = sot_in b at in
      let header = part_header (has_packed main) comps b at in
      let last = is_clear (kind_of (has_packed main) sot) comps b header.segments header.end none in
      let sod : segment_at comps (drop header.end b) ≡ segment.Sod = sod_ends (has_packed main) sot (segment_at comps (drop header.end b)) (header_ends (kind_of (has_packed main) sot) comps b (after_sot b at) none) last.stands in
      let rest = drop (size_at (drop header.end b)) (drop header.end b) in
      let P : Segment → Type 0 = λ s. BeginsWith comps (drop header.end b) s rest in
      let begins = subst P sod (begins_at comps b header.end are last.rules) in
      let whole = header_bytes siz main parts sot header.segments in
      record {
        siz = siz;
        main = main;
        parts = parts;
        sot = sot;
        before = header.segments;
        front = is_header clear;
        begins = record { rest = rest; bytes = header_front ∙ ap (λ (x : List ℕ). whole ++ x) begins.spelled ∙ sym (append_assoc whole (spelling comps segment.Sod) rest) };
        first = ap (λ (n : ℕ). sod_fault b at sot n) (sym header_place) ∙ h;
      }

-- the cases of a first violation by their numbers

as_part : (b : List ℕ) (f : StreamFault) → IsAtPart b f → IsFirst b f
as_part b f x = inr (inr (inr (inr (inl x))))

as_sot : (b : List ℕ) (f : StreamFault) → IsAtSot b f → IsFirst b f
as_sot b f x = inr (inr (inr (inr (inr (inl x)))))

as_header : (b : List ℕ) (f : StreamFault) → IsInHeader b f → IsFirst b f
as_header b f x = inr (inr (inr (inr (inr (inr (inl x))))))

as_sod : (b : List ℕ) (f : StreamFault) → IsAtSod b f → IsFirst b f
as_sod b f x = inr (inr (inr (inr (inr (inr (inr (inl x)))))))

as_eoc : (b : List ℕ) (f : StreamFault) → IsAtEoc b f → IsFirst b f
as_eoc b f x = inr (inr (inr (inr (inr (inr (inr (inr (inl x))))))))

as_unshared : (b : List ℕ) (f : StreamFault) → IsUnshared b f → IsFirst b f
as_unshared b f x = inr (inr (inr (inr (inr (inr (inr (inr (inr (inl x)))))))))

as_short : (b : List ℕ) (f : StreamFault) → IsShort b f → IsFirst b f
as_short b f x = inr (inr (inr (inr (inr (inr (inr (inr (inr (inr (inl x))))))))))

as_over : (b : List ℕ) (f : StreamFault) → IsOver b f → IsFirst b f
as_over b f x = inr (inr (inr (inr (inr (inr (inr (inr (inr (inr (inr x))))))))))

after_told : (b : List ℕ) (siz : Siz) (main : List Segment) (parts : List TilePart) (f : StreamFault) → AreBytes b → UpTo b siz main parts
    → fault_after (has_packed main) (length siz.comps) (tile_number siz) b (placed (length siz.comps) (first_sot siz main) parts) (length (front_bytes siz main parts)) ≡ Some f → IsFirst b f
after_told b siz main parts f are up h =
    let comps = length siz.comps in
    let at = length (front_bytes siz main parts) in
    elim (in_part (has_packed main) comps (tile_number siz) b (comes_out_of_turn (placed comps (first_sot siz main) parts) (sot_in b at)) at f h) [
      | inl start ↦ as_part b f (part_told b siz main parts f up start)
      | inr later ↦ elim later.1 [
        | inl sot ↦ as_sot b f (sot_told b siz main parts f are up later.0 sot)
        | inr header ↦ elim header.1 [
          | inl segment ↦ as_header b f (header_told b siz main parts f are up later.0 header.0 segment)
          | inr sod ↦ as_sod b f (sod_told b siz main parts f are up later.0 header.0 sod.0 sod.1)
        ]
      ]
    ]

-- tile-parts up to a place where no EOC stands, after the main header
record UpToHere (b : List ℕ) (siz : Siz) (main : List Segment) (res : Parts) : Type 0 where
  pub parts : List TilePart
  pub up : UpTo b siz main parts
  pub all : res.parts ≡ placed (length siz.comps) (first_sot siz main) parts
  pub end : res.end ≡ length (front_bytes siz main parts)

main_front : (b : List ℕ) → MainSpelled b → b ≡ main_bytes (siz_of b) (main_header (length (siz_of b).comps) b (after_siz b)).segments ++ drop (main_header (length (siz_of b).comps) b (after_siz b)).end b
main_front b m =
    let header = main_header (length (siz_of b).comps) b (after_siz b) in
    m.bytes ∙ sym (main_rest (siz_of b) header.segments (drop header.end b))

-- what is known of a main header, in which nothing is violated
record MainClear (b : List ℕ) : Type 0 where
  pub range : SizInRange (siz_of b)
  pub few : tiles_fault (siz_of b) ≡ None
  pub spelled : MainSpelled b
  pub header : header_fault Main (length (siz_of b).comps) b (after_siz b) ≡ None

is_main : (b : List ℕ) → MainClear b → IsMain (siz_of b) (main_header (length (siz_of b).comps) b (after_siz b)).segments
is_main b m = record { range = m.range; few = m.few; segments = m.spelled.are }

up_to : (b : List ℕ) → AreBytes b → MainClear b → lacks_default (main_header (length (siz_of b).comps) b (after_siz b)).segments ≡ false
    → marker_at b (parts_after (length (siz_of b).comps) (tile_number (siz_of b)) b (after_siz b)).end EOC ≡ false
    → UpToHere b (siz_of b) (main_header (length (siz_of b).comps) b (after_siz b)).segments (parts_after (length (siz_of b).comps) (tile_number (siz_of b)) b (after_siz b))
up_to b are m defaults lacks =
    let siz = siz_of b in
    let comps = length siz.comps in
    let tiles = tile_number siz in
    let header = main_header comps b (after_siz b) in
    let main = header.segments in
    let res = parts_after comps tiles b (after_siz b) in
    let pn = parts_named (has_packed main) comps tiles b (length b) [] header.end are lacks in
    let P : ℕ → Type 0 = λ n. AreNamed (has_packed main) comps tiles [] n pn.new in
    let Q : ℕ → Type 0 = λ n. SotThere comps b n in
    let place : res.end ≡ length (front_bytes siz main pn.new) =
    pn.size ∙ ap (λ (n : ℕ). n + length (flat_map (part_bytes comps) pn.new)) m.spelled.place ∙ sym (front_size siz main pn.new) in
    record {
      parts = pn.new;
      up = record {
        are = record { front = is_main b m; defaults = defaults; each = subst P m.spelled.place pn.are };
        bytes = main_front b m.spelled ∙ ap (λ (x : List ℕ). main_bytes siz main ++ x) pn.spelled ∙ sym (front_rest siz main pn.new (drop res.end b))
            ∙ ap (λ (n : ℕ). front_bytes siz main pn.new ++ drop n b) place;
        first = subst Q m.spelled.place (first_there comps b (after_siz b) are m.header);
        goes = ap (λ (n : ℕ). marker_at b n EOC) (sym place) ∙ lacks;
      };
      all = pn.all ∙ ap (λ (n : ℕ). placed comps n pn.new) m.spelled.place;
      end = place;
    }

cond_some : (t : Bool) (x : Option StreamFault) (f : StreamFault) → cond t None x ≡ Some f → (t ≡ false) × (x ≡ Some f)
cond_some true x f h = absurd (cc)
cond_some false x f h = (refl, h)

parts_told : (b : List ℕ) (f : StreamFault) → AreBytes b → MainClear b → lacks_default (main_header (length (siz_of b).comps) b (after_siz b)).segments ≡ false
    → parts_fault (has_packed (main_header (length (siz_of b).comps) b (after_siz b)).segments) (length (siz_of b).comps) (tile_number (siz_of b)) b (main_header (length (siz_of b).comps) b (after_siz b)).end ≡ Some f → IsFirst b f
parts_told b f are m defaults h =
    let siz = siz_of b in
    let comps = length siz.comps in
    let tiles = tile_number siz in
    let main = (main_header comps b (after_siz b)).segments in
    let res = parts_after comps tiles b (after_siz b) in
    let here = cond_some (marker_at b res.end EOC) (fault_after (has_packed main) comps tiles b res.parts res.end) f h in
    let up = up_to b are m defaults here.0 in
    after_told b siz main up.parts f are up.up
    (ap (λ (x : List PlacedPart). fault_after (has_packed main) comps tiles b x (length (front_bytes siz main up.parts))) (sym up.all) ∙ ap (λ (n : ℕ). fault_after (has_packed main) comps tiles b res.parts n) (sym up.end) ∙ here.1)

main_told : (b : List ℕ) (f : StreamFault) → SizInRange (siz_of b) → tiles_fault (siz_of b) ≡ None → MainSpelled b → header_fault Main (length (siz_of b).comps) b (after_siz b) ≡ Some f → IsInMain b f
main_told b f range few m h =
    let siz = siz_of b in
    let header = main_header (length siz.comps) b (after_siz b) in
    record {
      siz = siz;
      before = header.segments;
      front = record { range = range; few = few; segments = m.are };
      begins = record { rest = drop header.end b; bytes = main_front b m };
      first = ap (λ (n : ℕ). segment_fault Main (length siz.comps) b header.segments n) (main_size siz header.segments ∙ sym m.place) ∙ h;
    }

defaults_told : (b : List ℕ) (f : StreamFault) → AreBytes b → MainClear b
    → broken NO_DEFAULTS (main_header (length (siz_of b).comps) b (after_siz b)).end (lacks_default (main_header (length (siz_of b).comps) b (after_siz b)).segments) ≡ Some f → IsAtFirstSot b f
defaults_told b f are m h =
    let siz = siz_of b in
    let comps = length siz.comps in
    let header = main_header comps b (after_siz b) in
    let main = header.segments in
    let there = first_there comps b (after_siz b) are m.header in
    let tail = spelling comps (segment.Sot there.sot) ++ there.rest in
    record {
      siz = siz;
      main = main;
      sot = there.sot;
      front = is_main b m;
      range = there.range;
      begins = record {
        rest = there.rest;
        bytes = main_front b m.spelled ∙ ap (λ (x : List ℕ). main_bytes siz main ++ x) there.spelled ∙ sym (front_rest siz main [] tail) ∙ sym (sot_rest siz main [] there.sot there.rest);
      };
      first = ap (λ (n : ℕ). broken NO_DEFAULTS n (lacks_default main)) (main_size siz main ∙ sym m.spelled.place) ∙ h;
    }

-- what is violated up to EOC, in the order of its tests
abbrev InBody : ℕ → ℕ → List ℕ → ℕ → StreamFault → Type 0
InBody comps tiles b start f =
    (header_fault Main comps b start ≡ Some f) ⊎ ((header_fault Main comps b start ≡ None)
    × ((broken NO_DEFAULTS (main_header comps b start).end (lacks_default (main_header comps b start).segments) ≡ Some f) ⊎ ((lacks_default (main_header comps b start).segments ≡ false)
    × ((parts_test comps tiles b start ≡ Some f) ⊎ ((parts_test comps tiles b start ≡ None)
    × ((lacks_test comps tiles b start ≡ Some f) ⊎ ((lacks_part (parts_after comps tiles b start).parts tiles ≡ false) × (shares_test comps tiles b start ≡ Some f))))))))

broken_or : (number place : ℕ) (lacks : Bool) (z : Option StreamFault) (f : StreamFault) → option_or (broken number place lacks) z ≡ Some f → (broken number place lacks ≡ Some f) ⊎ ((lacks ≡ false) × (z ≡ Some f))
broken_or number place false z f h = inr (refl, h)
broken_or number place true z f h = inl h

pairs_of : (w y z : Option StreamFault) (number place other there : ℕ) (lacks wants : Bool) (f : StreamFault)
    → option_or (option_or w (broken number place lacks)) (option_or y (option_or (broken other there wants) z)) ≡ Some f
    → (w ≡ Some f) ⊎ ((w ≡ None) × ((broken number place lacks ≡ Some f) ⊎ ((lacks ≡ false) × ((y ≡ Some f) ⊎ ((y ≡ None)
    × ((broken other there wants ≡ Some f) ⊎ ((wants ≡ false) × (z ≡ Some f))))))))
pairs_of None None z number place other there false wants f h = inr (refl, inr (refl, inr (refl, broken_or other there wants z f h)))
pairs_of None (Some e) z number place other there false wants f h = inr (refl, inr (refl, inl h))
pairs_of None y z number place other there true wants f h = inr (refl, inl h)
pairs_of (Some e) y z number place other there lacks wants f h = inl h

in_body : (comps tiles : ℕ) (b : List ℕ) (start : ℕ) (f : StreamFault) → body_fault comps tiles b start ≡ Some f → InBody comps tiles b start f
unfolding body_fault main_fault
in_body comps tiles b start f h =
    pairs_of (header_fault Main comps b start) (parts_test comps tiles b start) (shares_test comps tiles b start) NO_DEFAULTS (main_header comps b start).end NO_PART (parts_after comps tiles b start).end
    (lacks_default (main_header comps b start).segments) (lacks_part (parts_after comps tiles b start).parts tiles) f h

eoc_told : (b : List ℕ) (f : StreamFault) (siz : Siz) (main : List Segment) (res : Parts) (w : WholeSpelled b siz main res) → broken NO_PART res.end (lacks_part res.parts (tile_number siz)) ≡ Some f → IsAtEoc b f
eoc_told b f siz main res w h =
    let comps = length siz.comps in
    let tiles = tile_number siz in
    record {
      siz = siz;
      main = main;
      parts = w.parts;
      rest = w.rest;
      whole = w.whole;
      first = ap (λ (n : ℕ). broken NO_PART n (lacks_part (placed comps (first_sot siz main) w.parts) tiles)) (front_size siz main w.parts ∙ sym w.end)
          ∙ ap (λ (x : List PlacedPart). broken NO_PART res.end (lacks_part x tiles)) (sym w.all) ∙ h;
    }

unshared_told : (b : List ℕ) (f : StreamFault) (siz : Siz) (main : List Segment) (res : Parts) (w : WholeSpelled b siz main res) → lacks_part res.parts (tile_number siz) ≡ false
    → shares_fault b (main_packed siz main) res.parts ≡ Some f → IsUnshared b f
unshared_told b f siz main res w each h = record {
  siz = siz;
  main = main;
  parts = w.parts;
  rest = w.rest;
  whole = w.whole;
  each = ap (λ (x : List PlacedPart). lacks_part x (tile_number siz)) (sym w.all) ∙ each;
  first = ap (λ (x : List PlacedPart). shares_fault b (main_packed siz main) x) (sym w.all) ∙ h;
}

body_told : (b : List ℕ) (f : StreamFault) → AreBytes b → FrontClear b → tiles_fault (siz_of b) ≡ None → body_fault (length (siz_of b).comps) (tile_number (siz_of b)) b (after_siz b) ≡ Some f → IsFirst b f
body_told b f are clear few h =
    let siz = siz_of b in
    let comps = length siz.comps in
    let tiles = tile_number siz in
    let front = front_spelled b are clear in
    let m = main_spelled b are front in
    elim (in_body comps tiles b (after_siz b) f h) [
      | inl header ↦ inr (inr (inl (main_told b f front.range few m header)))
      | inr main ↦
          let known : MainClear b = record { range = front.range; few = few; spelled = m; header = main.0 } in
          elim main.1 [
            | inl lacks ↦ inr (inr (inr (inl (defaults_told b f are known lacks))))
            | inr later ↦ elim later.1 [
              | inl part ↦ parts_told b f are known later.0 part
              | inr last ↦
                  let res = parts_after comps tiles b (after_siz b) in
                  let segments = (main_header comps b (after_siz b)).segments in
                  let whole = up_to_eoc b are clear few main.0 later.0 last.0 in
                  elim last.1 [
                    | inl none ↦ as_eoc b f (eoc_told b f siz segments res whole none)
                    | inr shares ↦ as_unshared b f (unshared_told b f siz segments res whole shares.0
                        (ap (λ (x : List PackedSegment). shares_fault b x res.parts) (sym (packed_same b front)) ∙ shares.1))
                  ]
            ]
          ]
    ]

-- after EOC

short_told : (b : List ℕ) (f : StreamFault) (siz : Siz) (main : List Segment) (res : Parts) (w : WholeSpelled b siz main res) → lacks_part res.parts (tile_number siz) ≡ false
    → shares_fault b (main_packed siz main) res.parts ≡ None
    → entries_fault main (length siz.comps) (tiles_of main (with_shares b (main_packed siz main) res.parts) (tile_number siz)) ≡ Some f → IsShort b f
short_told b f siz main res w each packed h =
    let comps = length siz.comps in
    let tiles = tile_number siz in
    record {
      siz = siz;
      main = main;
      parts = w.parts;
      rest = w.rest;
      whole = w.whole;
      each = ap (λ (x : List PlacedPart). lacks_part x tiles) (sym w.all) ∙ each;
      packed = ap (λ (x : List PlacedPart). shares_fault b (main_packed siz main) x) (sym w.all) ∙ packed;
      first = ap (λ (x : List PlacedPart). entries_fault main comps (tiles_of main (with_shares b (main_packed siz main) x) tiles)) (sym w.all) ∙ h;
    }

after_eoc_told : (b : List ℕ) (f : StreamFault) → AreBytes b → FrontClear b → tiles_fault (siz_of b) ≡ None → body_fault (length (siz_of b).comps) (tile_number (siz_of b)) b (after_siz b) ≡ None
    → parameters_fault (stream_in b) ≡ Some f → IsFirst b f
after_eoc_told b f are clear few none h =
    let siz = siz_of b in
    let comps = length siz.comps in
    let tiles = tile_number siz in
    let main = (main_header comps b (after_siz b)).segments in
    let res = parts_after comps tiles b (after_siz b) in
    let s = stream_in b in
    let body = body_is_clear comps tiles b (after_siz b) none in
    let own : packed_after comps b (after_siz b) ≡ main_packed siz main = packed_same b (front_spelled b are clear) in
    elim (either_some (entries_fault s.main (length s.siz.comps) s.tiles) (planes_fault s.main (length s.siz.comps) s.tiles) f h) [
      | inl short ↦ as_short b f (short_told b f siz main res (up_to_eoc b are clear few body.header body.defaults body.parts) body.each
          (ap (λ (x : List PackedSegment). shares_fault b x res.parts) (sym own) ∙ body.packed)
          (sym (ap (λ (x : Stream). entries_fault x.main (length x.siz.comps) x.tiles) (shape_by b own)) ∙ short))
      | inr over ↦ as_over b f (record {
        stream = s;
        spelled = clear_spelled b are (record { front = clear; few = few; body = body; entries = over.0 });
        few = ap (λ (x : Stream). tiles_fault x.siz) (stream_shape b) ∙ few;
        first = over.1;
      })
    ]

siz_told : (b : List ℕ) (f : StreamFault) → AreBytes b → FrontClear b → tiles_fault (siz_of b) ≡ Some f → IsInSiz b f
siz_told b f are clear h =
    let siz = siz_of b in
    let front = front_spelled b are clear in
    record { siz = siz; range = front.range; begins = record { rest = drop (after_siz b) b; bytes = front.bytes ∙ sym (main_rest siz [] (drop (after_siz b) b)) }; first = h }

later_told : (b : List ℕ) (f : StreamFault) → AreBytes b → FrontClear b → later_fault (siz_of b) b (after_siz b) ≡ Some f → IsFirst b f
unfolding later_fault
later_told b f are clear h =
    let body = body_fault (length (siz_of b).comps) (tile_number (siz_of b)) b (after_siz b) in
    elim (either_some (tiles_fault (siz_of b)) (option_or body (parameters_fault (stream_in b))) f h) [
      | inl many ↦ inr (inl (siz_told b f are clear many))
      | inr few ↦ elim (either_some body (parameters_fault (stream_in b)) f few.1) [
        | inl part ↦ body_told b f are clear few.0 part
        | inr last ↦ after_eoc_told b f are clear few.0 last.0 last.1
      ]
    ]

pub first_is_told : (b : List ℕ) (f : StreamFault) → AreBytes b → first_fault b ≡ Some f → IsFirst b f
unfolding first_fault
first_is_told b f are h =
    elim (either_some (front_fault b) (later_fault (siz_of b) b (after_siz b)) f h) [
      | inl front ↦ inl front
      | inr later ↦ later_told b f are (front_is_clear b later.0) later.1
    ]

-- one of both

one_or_none : (x : Option StreamFault) → ((f : StreamFault) × (x ≡ Some f)) ⊎ (x ≡ None)
one_or_none None = inr refl
one_or_none (Some f) = inl (f, refl)

pub either_way : (b : List ℕ) → AreBytes b → ((f : StreamFault) × IsFirst b f) ⊎ ((s : Stream) × IsRead b s)
either_way b are =
    elim (one_or_none (first_fault b)) [
      | inl some ↦ inl (some.0, first_is_told b some.0 are some.1)
      | inr none ↦ inr (stream_in b, read_spelled b (stream_in b) are none refl)
    ]

-- what an answer of reading says

cause_told : (b : List ℕ) (f : StreamFault) → AreBytes b → IsCause f (first_fault b) → (f ≡ fault.NoMemory) ⊎ IsFirst b f
cause_told b (fault.Rule number place) are h = inr (first_is_told b (fault.Rule number place) are h)
cause_told b (fault.Limit number found) are h = inr (first_is_told b (fault.Limit number found) are h)
cause_told b fault.NoMemory are h = inl refl

pub answer_first : {X : Type 0} (b : List ℕ) (r : Result X StreamFault) (P : X → Type 0) → AreBytes b → Answers r (first_fault b) P → (f : StreamFault) → r ≡ Err f → (f ≡ fault.NoMemory) ⊎ IsFirst b f
answer_first b (Ok x) P are answer f h = absurd (cc)
answer_first b (Err e) P are answer f h =
    let same : e ≡ f = cc in
    let Q : StreamFault → Type 0 = λ x. IsCause x (first_fault b) in
    cause_told b f are (subst Q same answer)

cause_only : {X : Type 0} (b : List ℕ) (e f : StreamFault) → IsCause e (first_fault b) → first_fault b ≡ Some f → (◌≡◌ {A = Result X StreamFault} (Err e) (Err f)) ⊎ (◌≡◌ {A = Result X StreamFault} (Err e) (Err fault.NoMemory))
cause_only b (fault.Rule number place) f cause h =
    let same : Some (fault.Rule number place) ≡ Some f = sym cause ∙ h in inl (cc)
cause_only b (fault.Limit number found) f cause h =
    let same : Some (fault.Limit number found) ≡ Some f = sym cause ∙ h in inl (cc)
cause_only b fault.NoMemory f cause h = inr refl

pub answer_only : {X : Type 0} (b : List ℕ) (r : Result X StreamFault) (P : X → Type 0) → Answers r (first_fault b) P → (f : StreamFault) → IsFirst b f → (r ≡ Err f) ⊎ (r ≡ Err fault.NoMemory)
answer_only b (Ok x) P answer f first = let wrong : None ≡ Some f = sym answer.0 ∙ told_is_first b f first in absurd (cc)
answer_only b (Err e) P answer f first = cause_only b e f answer (told_is_first b f first)
