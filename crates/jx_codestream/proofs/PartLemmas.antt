-- Tile-parts and the tables of their tiles.
use Rattle.std.proofs.Common.{◌≡◌, ◌≢◌, ◌∙◌, ◌<◌, ◌≤◌, ◌+◌, ◌-◌, ◌==◌, ◌||◌, ◌&&◌, ℕ, zero, suc, Bool, true, false, not, nat_lt, nat_le, arith, List, [], ◌∷◌, ◌++◌, length, drop, get_or, refl, sym, ap, Option, Some, None, cond, Result, Err, inl, inr}
use Rattle.std.specs.Option.{option_or, is_some}
use Rattle.std.proofs.Math.ListN.{set}
use Rattle.std.proofs.lemmas.Bool.Decides.{nat_tests}
use Rattle.std.proofs.lemmas.List.{get_or-set_other, length-set, get_or-drop, get_or_past, length-append, append-nil}
use Rattle.std.proofs.lemmas.List.Folds.{list_any-append}
use Rattle.std.proofs.lemmas.List.Elements.{filter-append}
use Rattle.std.proofs.lemmas.Grind.{get_or-set_at}
use Rattle.jx_marker.specs.Codes.{SOT, EOC}
use Rattle.jx_marker.specs.declared.Segment.{Segment}
use Rattle.jx_marker.specs.declared.Segment.TheVariants as segment
use Rattle.jx_marker.specs.declared.Sot.{Sot}
use Rattle.jx_marker.specs.declared.Rule.{Rule}
use Rattle.jx_marker.specs.declared.Rule.TheVariants as rule
use Rattle.jx_marker.specs.Rules.{first_broken}
use Rattle.jx_marker.specs.Segments.{segment_at, size_at}
use Rattle.jx_codestream.specs.declared.faults.StreamFault.{StreamFault}
use Rattle.jx_codestream.specs.declared.faults.StreamFault.TheVariants as fault
use Rattle.jx_codestream.specs.declared.headers.Header.{Header}
use Rattle.jx_codestream.specs.declared.parts.PlacedPart.{PlacedPart}
use Rattle.jx_codestream.specs.declared.Body.{Body}
use Rattle.jx_codestream.specs.Faults.{broken, fault_of, IsCause}
use Rattle.jx_codestream.specs.Headers.{header_at, header_fault, without_ppt}
use Rattle.jx_codestream.specs.PackedHeaders.{heads_in}
use Rattle.jx_codestream.specs.Parts.{marker_at, sot_in, after_sot, kind_of, parts_of, told_other, is_out_of_turn, comes_out_of_turn, tables_say, start_fault, sot_fault, sod_fault, has_wrong_length, end_of, part_header, part_at, part_fault, fault_after, end_of_part, parts_stop, Parts, longest_parts, parts_from, parts_fault, Tracks}
use Rattle.jx_codestream.proofs.FaultLemmas.{cause_first, cause_later, none_first, none_later, broken_none}
use Rattle.jx_codestream.proofs.HeaderLemmas.{size_is_two, longest_rises}
use Rattle.jx_codestream.specs.declared.headers.HeaderKind.{HeaderKind}
use Rattle.std.proofs.lemmas.Bool.{and_parts, cases_Bool, cases_eq, eq-eqb, eqb-true, leb-false, ne_eqb, not-false, or_right, or_parts, ltb-false, ltb-true}
use Rattle.jx_base.proofs.Tests.{or_false}
use Rattle.jx_marker.proofs.RuleLemmas.{both}
use Rattle.jx_marker.specs.RuleNumbers.{NO_TILE, PART_END, PART_LENGTH, PART_NUMBER}

pub none_is : (x : Option StreamFault) → is_some x ≡ false → x ≡ None
none_is None h = refl
none_is (Some e) h = absurd (cc)

-- where the marker stands, the segment is a SOT
pub sot_stands : (comps : ℕ) (b : List ℕ) (at : ℕ) → marker_at b at SOT ≡ true → segment_at comps (drop at b) ≡ segment.Sot (sot_in b at)
sot_stands comps b at h =
    let e : get_or (drop at b) 1 0 ≡ SOT = get_or-drop at b 1 0 ∙ eqb-true (get_or b (at + 1) 0) SOT (and_parts (get_or b at 0 == 255) (get_or b (at + 1) 0 == SOT) h).1 in
    rw e refl

pub sot_of_segment : (comps : ℕ) (b : List ℕ) (at : ℕ) (s : Segment) → marker_at b at SOT ≡ true → segment_at comps (drop at b) ≡ s → s ≡ segment.Sot (sot_in b at)
sot_of_segment comps b at s h e = sym e ∙ sot_stands comps b at h

pub start_cause : (comps : ℕ) (b : List ℕ) (at : ℕ) (why : Rule) {X : Type 0} (x : Result X Rule) → marker_at b at SOT ≡ true → x ≡ Err why
    → ((m : ℕ) → x ≡ Err (rule.Broken m) → first_broken comps (drop at b) ≡ Some m) → IsCause (fault_of why at) (start_fault comps b at)
unfolding start_fault
start_cause comps b at (rule.Broken m) x stands is h = rw (stands, h m is) refl
start_cause comps b at rule.NoMemory x stands is h = tt

pub start_clear : (comps : ℕ) (b : List ℕ) (at : ℕ) → marker_at b at SOT ≡ true → first_broken comps (drop at b) ≡ None → start_fault comps b at ≡ None
unfolding start_fault
start_clear comps b at stands h = rw (stands, h) refl

pub start_missing : (comps : ℕ) (b : List ℕ) (at : ℕ) → marker_at b at SOT ≡ false → marker_at b at EOC ≡ false → start_fault comps b at ≡ Some (fault.Rule PART_END at)
unfolding start_fault
start_missing comps b at lacks goes = rw (lacks, goes) refl

-- what is violated first in a tile-part

module _ (packed : Bool) (comps tiles : ℕ) (b : List ℕ) (out : Bool) (at : ℕ) where
  pub part_start : (e : StreamFault) → IsCause e (start_fault comps b at) → IsCause e (part_fault packed comps tiles b out at)
  unfolding part_fault
  part_start e h = cause_first e (start_fault comps b at) (option_or (sot_fault tiles b at (sot_in b at) out) (option_or (header_fault (kind_of packed (sot_in b at)) comps b (after_sot b at)) (sod_fault b at (sot_in b at) (part_header packed comps b at).end))) h

  pub part_sot : (e : StreamFault) → start_fault comps b at ≡ None → IsCause e (sot_fault tiles b at (sot_in b at) out) → IsCause e (part_fault packed comps tiles b out at)
  unfolding part_fault
  part_sot e start h =
      cause_later e (start_fault comps b at) (option_or (sot_fault tiles b at (sot_in b at) out) (option_or (header_fault (kind_of packed (sot_in b at)) comps b (after_sot b at)) (sod_fault b at (sot_in b at) (part_header packed comps b at).end))) start
      (cause_first e (sot_fault tiles b at (sot_in b at) out) (option_or (header_fault (kind_of packed (sot_in b at)) comps b (after_sot b at)) (sod_fault b at (sot_in b at) (part_header packed comps b at).end)) h)

  pub part_head : (e : StreamFault) → start_fault comps b at ≡ None → sot_fault tiles b at (sot_in b at) out ≡ None
      → IsCause e (header_fault (kind_of packed (sot_in b at)) comps b (after_sot b at)) → IsCause e (part_fault packed comps tiles b out at)
  unfolding part_fault
  part_head e start sot h =
      cause_later e (start_fault comps b at) (option_or (sot_fault tiles b at (sot_in b at) out) (option_or (header_fault (kind_of packed (sot_in b at)) comps b (after_sot b at)) (sod_fault b at (sot_in b at) (part_header packed comps b at).end))) start
      (cause_later e (sot_fault tiles b at (sot_in b at) out) (option_or (header_fault (kind_of packed (sot_in b at)) comps b (after_sot b at)) (sod_fault b at (sot_in b at) (part_header packed comps b at).end)) sot
      (cause_first e (header_fault (kind_of packed (sot_in b at)) comps b (after_sot b at)) (sod_fault b at (sot_in b at) (part_header packed comps b at).end) h))

  pub part_sod : (e : StreamFault) → start_fault comps b at ≡ None → sot_fault tiles b at (sot_in b at) out ≡ None
      → header_fault (kind_of packed (sot_in b at)) comps b (after_sot b at) ≡ None → IsCause e (sod_fault b at (sot_in b at) (part_header packed comps b at).end) → IsCause e (part_fault packed comps tiles b out at)
  unfolding part_fault
  part_sod e start sot head h =
      cause_later e (start_fault comps b at) (option_or (sot_fault tiles b at (sot_in b at) out) (option_or (header_fault (kind_of packed (sot_in b at)) comps b (after_sot b at)) (sod_fault b at (sot_in b at) (part_header packed comps b at).end))) start
      (cause_later e (sot_fault tiles b at (sot_in b at) out) (option_or (header_fault (kind_of packed (sot_in b at)) comps b (after_sot b at)) (sod_fault b at (sot_in b at) (part_header packed comps b at).end)) sot
      (cause_later e (header_fault (kind_of packed (sot_in b at)) comps b (after_sot b at)) (sod_fault b at (sot_in b at) (part_header packed comps b at).end) head h))

  pub part_none : start_fault comps b at ≡ None → sot_fault tiles b at (sot_in b at) out ≡ None
      → header_fault (kind_of packed (sot_in b at)) comps b (after_sot b at) ≡ None → sod_fault b at (sot_in b at) (part_header packed comps b at).end ≡ None → part_fault packed comps tiles b out at ≡ None
  unfolding part_fault
  part_none start sot head sod = rw (start, sot, head, sod) refl

-- the tile-part that was read
pub part_is : (packed : Bool) (comps : ℕ) (b : List ℕ) (at : ℕ) (sot : Sot) (header : Header) (rest : List Segment) (end : ℕ) (heads : Option (List Body)) → sot ≡ sot_in b at → header ≡ part_header packed comps b at
    → rest ≡ without_ppt header.segments → end ≡ end_of b at sot → heads ≡ heads_in comps (after_sot b at) header.segments
    → ◌≡◌ {A = PlacedPart} (record { place = at; sot = sot; header = rest; heads = heads; body = record { at = header.end + 2; length = end - (header.end + 2) } }) (part_at packed comps b at)
unfolding part_at
part_is packed comps b at sot header rest end heads is head without stop apart = rw (apart, without, stop, head, is) refl

-- the header is read from where the SOT ends, for the kind that the SOT says
pub header_same : (packed : Bool) (comps : ℕ) (b : List ℕ) (at : ℕ) (sot : Sot) (next : ℕ) (kind : HeaderKind) (header : Header) → sot ≡ sot_in b at → next ≡ after_sot b at → kind ≡ kind_of packed sot
    → header ≡ header_at kind comps b next → header ≡ part_header packed comps b at
header_same packed comps b at sot next kind header is after of h =
    h ∙ ap (λ (k : HeaderKind). header_at k comps b next) (of ∙ ap (kind_of packed) is) ∙ ap (λ (n : ℕ). header_at (kind_of packed (sot_in b at)) comps b n) after

pub header_fault_same : (packed : Bool) (comps : ℕ) (b : List ℕ) (at : ℕ) (sot : Sot) (next : ℕ) (kind : HeaderKind) → sot ≡ sot_in b at → next ≡ after_sot b at → kind ≡ kind_of packed sot
    → header_fault kind comps b next ≡ header_fault (kind_of packed (sot_in b at)) comps b (after_sot b at)
header_fault_same packed comps b at sot next kind is after of =
    ap (λ (k : HeaderKind). header_fault k comps b next) (of ∙ ap (kind_of packed) is) ∙ ap (λ (n : ℕ). header_fault (kind_of packed (sot_in b at)) comps b n) after

-- a tile-part in which nothing is violated ends behind its first byte

pub sod_within : (b : List ℕ) (at : ℕ) (sot : Sot) (sod : ℕ) → sod_fault b at sot sod ≡ None → sod + 2 ≤ end_of b at sot
unfolding sod_fault
sod_within b at sot sod h =
    elim (cases_Bool (sot.psot == 0)) [
      | inl t ↦ rw t (ltb-false (length b - 2) (sod + 2) ((or_parts (not (marker_at b (length b - 2) EOC)) (nat_lt (length b - 2) (sod + 2)) (broken_none PART_END (length b - 2) _ (rw t at h))).1))
      | inr f ↦ rw f (ltb-false (at + sot.psot) (sod + 2) (broken_none PART_LENGTH at _ (rw f at h)))
    ]

pub part_rises : (packed : Bool) (comps tiles : ℕ) (b : List ℕ) (out : Bool) (at : ℕ) → part_fault packed comps tiles b out at ≡ None → at < end_of_part (part_at packed comps b at)
unfolding part_fault part_at
part_rises packed comps tiles b out at h =
    let one = none_later (start_fault comps b at) (option_or (sot_fault tiles b at (sot_in b at) out) (option_or (header_fault (kind_of packed (sot_in b at)) comps b (after_sot b at)) (sod_fault b at (sot_in b at) (part_header packed comps b at).end))) h in
    let two = none_later (sot_fault tiles b at (sot_in b at) out) (option_or (header_fault (kind_of packed (sot_in b at)) comps b (after_sot b at)) (sod_fault b at (sot_in b at) (part_header packed comps b at).end)) one in
    let three = none_later (header_fault (kind_of packed (sot_in b at)) comps b (after_sot b at)) (sod_fault b at (sot_in b at) (part_header packed comps b at).end) two in
    let within : (part_header packed comps b at).end + 2 ≤ end_of b at (sot_in b at) = sod_within b at (sot_in b at) (part_header packed comps b at).end three in
    let size : 2 ≤ size_at (drop at b) = size_is_two (drop at b) in
    let rises : after_sot b at ≤ (part_header packed comps b at).end = longest_rises (kind_of packed (sot_in b at)) comps b (length b) [] (after_sot b at) in
    omega arith

-- the tables say what the tile-parts do

module _ (packed : Bool) (comps : ℕ) (b : List ℕ) (parts : List PlacedPart) (counts told : List ℕ) (at : ℕ) (size : length told ≡ length counts) (tracks : Tracks parts counts told) where
  tables_are_right : (sot : Sot) → sot.tile < length counts → tables_say counts told sot ≡ comes_out_of_turn parts sot
  tables_are_right sot inside =
      let inside_told : sot.tile < length told = omega arith in
      ap (λ (n : ℕ). is_out_of_turn sot n (nat_lt 0 (get_or told sot.tile 0) && not (get_or told sot.tile 0 == sot.parts))) (tracks.count sot.tile inside)
      ∙ ap (λ (x : Bool). is_out_of_turn sot (length (parts_of sot.tile parts)) x) (sym (tracks.others sot.tile sot.parts inside_told))

  pub turn_same : part_fault packed comps (length counts) b (tables_say counts told (sot_in b at)) at ≡ fault_after packed comps (length counts) b parts at
  unfolding part_fault sot_fault
  turn_same =
      elim (cases_Bool (nat_le (length counts) (sot_in b at).tile)) [
        | inl t ↦ rw t refl
        | inr f ↦
            let inside : (sot_in b at).tile < length counts = leb-false (length counts) (sot_in b at).tile f in
            ap (λ (out : Bool). part_fault packed comps (length counts) b out at) (tables_are_right (sot_in b at) inside)
      ]

-- where tile-parts stop and where they go on

pub stop_at_eoc : (packed : Bool) (comps tiles : ℕ) (b : List ℕ) (parts : List PlacedPart) (at : ℕ) → marker_at b at EOC ≡ true → parts_stop packed comps tiles b parts at ≡ true
unfolding parts_stop
stop_at_eoc packed comps tiles b parts at h = rw h refl

pub stop_at_fault : (packed : Bool) (comps tiles : ℕ) (b : List ℕ) (parts : List PlacedPart) (at : ℕ) (e : StreamFault) → fault_after packed comps tiles b parts at ≡ Some e → parts_stop packed comps tiles b parts at ≡ true
unfolding parts_stop
stop_at_fault packed comps tiles b parts at e h = rw h (or_right (marker_at b at EOC) true refl)

pub go_on : (packed : Bool) (comps tiles : ℕ) (b : List ℕ) (parts : List PlacedPart) (at : ℕ) → marker_at b at EOC ≡ false → fault_after packed comps tiles b parts at ≡ None → parts_stop packed comps tiles b parts at ≡ false
unfolding parts_stop
go_on packed comps tiles b parts at goes clear = rw (goes, clear) refl

pub goes_clear : (packed : Bool) (comps tiles : ℕ) (b : List ℕ) (parts : List PlacedPart) (at : ℕ) → parts_stop packed comps tiles b parts at ≡ false → fault_after packed comps tiles b parts at ≡ None
unfolding parts_stop
goes_clear packed comps tiles b parts at h = none_is (fault_after packed comps tiles b parts at) ((or_parts (marker_at b at EOC) (is_some (fault_after packed comps tiles b parts at)) h).1)

marker_past : (b : List ℕ) (at code : ℕ) → length b ≤ at → marker_at b at code ≡ false
marker_past b at code h = rw (get_or_past b at 0 h) refl

pub stop_past : (packed : Bool) (comps tiles : ℕ) (b : List ℕ) (parts : List PlacedPart) (at : ℕ) → length b ≤ at → parts_stop packed comps tiles b parts at ≡ true
stop_past packed comps tiles b parts at h =
    stop_at_fault packed comps tiles b parts at (fault.Rule PART_END at)
    (part_start packed comps tiles b (comes_out_of_turn parts (sot_in b at)) at (fault.Rule PART_END at) (start_missing comps b at (marker_past b at SOT h) (marker_past b at EOC h)))

pub parts_stopped : (packed : Bool) (comps tiles : ℕ) (b : List ℕ) (n : ℕ) (parts : List PlacedPart) (at : ℕ) → parts_stop packed comps tiles b parts at ≡ true
    → longest_parts packed comps tiles b n parts at ≡ record { parts = parts; end = at }
unfolding longest_parts
parts_stopped packed comps tiles b zero parts at h = refl
parts_stopped packed comps tiles b (suc n) parts at h = rw h refl

pub parts_going : (packed : Bool) (comps tiles : ℕ) (b : List ℕ) (n : ℕ) (parts : List PlacedPart) (at : ℕ) → parts_stop packed comps tiles b parts at ≡ false
    → longest_parts packed comps tiles b (suc n) parts at ≡ longest_parts packed comps tiles b n (parts ++ part_at packed comps b at ∷ []) (end_of_part (part_at packed comps b at))
unfolding longest_parts
parts_going packed comps tiles b n parts at h = rw h refl

parts_same : (packed : Bool) (comps tiles : ℕ) (b : List ℕ) (n m : ℕ) (parts : List PlacedPart) (at : ℕ) → length b - at ≤ n → length b - at ≤ m
    → longest_parts packed comps tiles b n parts at ≡ longest_parts packed comps tiles b m parts at
parts_same packed comps tiles b zero m parts at leb-false other =
    let past : length b ≤ at = omega arith in
    parts_stopped packed comps tiles b zero parts at (stop_past packed comps tiles b parts at past) ∙ sym (parts_stopped packed comps tiles b m parts at (stop_past packed comps tiles b parts at past))
parts_same packed comps tiles b (suc n) zero parts at leb-false other =
    let past : length b ≤ at = omega arith in
    parts_stopped packed comps tiles b (suc n) parts at (stop_past packed comps tiles b parts at past) ∙ sym (parts_stopped packed comps tiles b zero parts at (stop_past packed comps tiles b parts at past))
parts_same packed comps tiles b (suc n) (suc m) parts at leb-false other =
    elim (cases_Bool (parts_stop packed comps tiles b parts at)) [
      | inl t ↦ parts_stopped packed comps tiles b (suc n) parts at t ∙ sym (parts_stopped packed comps tiles b (suc m) parts at t)
      | inr f ↦ let rises : at < end_of_part (part_at packed comps b at) = part_rises packed comps tiles b (comes_out_of_turn parts (sot_in b at)) at (goes_clear packed comps tiles b parts at f) in
          let fewer : length b - end_of_part (part_at packed comps b at) ≤ n = omega arith in
          let less : length b - end_of_part (part_at packed comps b at) ≤ m = omega arith in
          parts_going packed comps tiles b n parts at f
          ∙ parts_same packed comps tiles b n m (parts ++ part_at packed comps b at ∷ []) (end_of_part (part_at packed comps b at)) fewer less
          ∙ sym (parts_going packed comps tiles b m parts at f)
    ]

pub parts_on : (packed : Bool) (comps tiles : ℕ) (b : List ℕ) (parts : List PlacedPart) (at : ℕ) → at < length b → parts_stop packed comps tiles b parts at ≡ false
    → longest_parts packed comps tiles b (length b) parts at ≡ longest_parts packed comps tiles b (length b) (parts ++ part_at packed comps b at ∷ []) (end_of_part (part_at packed comps b at))
parts_on packed comps tiles b parts at inside goes =
    let rises : at < end_of_part (part_at packed comps b at) = part_rises packed comps tiles b (comes_out_of_turn parts (sot_in b at)) at (goes_clear packed comps tiles b parts at goes) in
    let fewer : length b - end_of_part (part_at packed comps b at) ≤ length b - 1 = omega arith in
    let most : length b - end_of_part (part_at packed comps b at) ≤ length b = omega arith in
    let one : length b - at ≤ suc (length b - 1) = omega arith in
    let all : length b - at ≤ length b = omega arith in
    parts_same packed comps tiles b (length b) (suc (length b - 1)) parts at all one
    ∙ parts_going packed comps tiles b (length b - 1) parts at goes
    ∙ parts_same packed comps tiles b (length b - 1) (length b) (parts ++ part_at packed comps b at ∷ []) (end_of_part (part_at packed comps b at)) fewer most

-- how tile-parts are read, that were read up to a place

module _ (packed : Bool) (comps tiles : ℕ) (b : List ℕ) (start : ℕ) (parts : List PlacedPart) (at : ℕ)
    (same : longest_parts packed comps tiles b (length b) parts at ≡ parts_from packed comps tiles b start) where
  ended : parts_stop packed comps tiles b parts at ≡ true → parts_from packed comps tiles b start ≡ record { parts = parts; end = at }
  ended h = sym same ∙ parts_stopped packed comps tiles b (length b) parts at h

  pub fault_at_end : parts_stop packed comps tiles b parts at ≡ true → parts_fault packed comps tiles b start ≡ cond (marker_at b at EOC) None (fault_after packed comps tiles b parts at)
  fault_at_end h = ap (λ (x : Parts). cond (marker_at b x.end EOC) None (fault_after packed comps tiles b x.parts x.end)) (ended h)

  pub parts_end : marker_at b at EOC ≡ true
      → (parts_fault packed comps tiles b start ≡ None) × (parts ≡ (parts_from packed comps tiles b start).parts) × (at ≡ (parts_from packed comps tiles b start).end)
  parts_end h =
      let stop = stop_at_eoc packed comps tiles b parts at h in (
        fault_at_end stop ∙ rw h refl,
        ap (λ (x : Parts). x.parts) (sym (ended stop)),
        ap (λ (x : Parts). x.end) (sym (ended stop)),
      )

  pub parts_refused : (e : StreamFault) → marker_at b at EOC ≡ false → IsCause e (fault_after packed comps tiles b parts at) → IsCause e (parts_fault packed comps tiles b start)
  parts_refused (fault.Rule number place) goes h =
      fault_at_end (stop_at_fault packed comps tiles b parts at (fault.Rule number place) h) ∙ rw goes h
  parts_refused (fault.Limit number found) goes h =
      fault_at_end (stop_at_fault packed comps tiles b parts at (fault.Limit number found) h) ∙ rw goes h
  parts_refused fault.NoMemory goes h = tt

  pub parts_more : (items : List PlacedPart) (p : PlacedPart) (next : ℕ) → at < length b → marker_at b at EOC ≡ false → fault_after packed comps tiles b parts at ≡ None → p ≡ part_at packed comps b at
      → items ≡ parts ++ p ∷ [] → next ≡ end_of_part p → longest_parts packed comps tiles b (length b) items next ≡ parts_from packed comps tiles b start
  parts_more items p next inside goes clear is all after =
      ap (λ (n : ℕ). longest_parts packed comps tiles b (length b) items n) (after ∙ ap end_of_part is)
      ∙ ap (λ (x : List PlacedPart). longest_parts packed comps tiles b (length b) x (end_of_part (part_at packed comps b at))) (all ∙ ap (λ (x : PlacedPart). parts ++ x ∷ []) is)
      ∙ sym (parts_on packed comps tiles b parts at inside (go_on packed comps tiles b parts at goes clear)) ∙ same

-- the tables after one tile-part more

pub own_more : (tile : ℕ) (parts : List PlacedPart) (p : PlacedPart) → p.sot.tile ≡ tile → parts_of tile (parts ++ p ∷ []) ≡ parts_of tile parts ++ p ∷ []
own_more tile parts p h = filter-append (λ (x : PlacedPart). x.sot.tile == tile) parts (p ∷ []) ∙ rw (eq-eqb p.sot.tile tile h) refl

pub own_same : (tile : ℕ) (parts : List PlacedPart) (p : PlacedPart) → p.sot.tile ≢ tile → parts_of tile (parts ++ p ∷ []) ≡ parts_of tile parts
own_same tile parts p h = filter-append (λ (x : PlacedPart). x.sot.tile == tile) parts (p ∷ []) ∙ rw (ne_eqb p.sot.tile tile h) (append-nil (parts_of tile parts))

other_more : (number : ℕ) (own : List PlacedPart) (p : PlacedPart) → told_other number (own ++ p ∷ []) ≡ (told_other number own || (nat_lt 0 p.sot.parts && not (p.sot.parts == number)))
other_more number own p = list_any-append (λ (x : PlacedPart). nat_lt 0 x.sot.parts && not (x.sot.parts == number)) own (p ∷ [])
    ∙ ap (λ (x : Bool). told_other number own || x) (or_false (nat_lt 0 p.sot.parts && not (p.sot.parts == number)))

-- what a SOT in turn says
pub record InTurn (sot : Sot) (count : ℕ) (other : Bool) : Type 0 where
  pub number : sot.part ≡ count
  pub same : nat_lt 0 sot.parts ≡ true → other ≡ false

in_turn : (sot : Sot) (count : ℕ) (other : Bool) → is_out_of_turn sot count other ≡ false → InTurn sot count other
in_turn sot count other h = record {
  number = eqb-true sot.part count (not-false (sot.part == count) ((or_parts (not (sot.part == count)) (nat_lt 0 sot.parts && (nat_le sot.parts sot.part || other)) h).0));
  same = λ some.
      let rest = (or_parts (not (sot.part == count)) (nat_lt 0 sot.parts && (nat_le sot.parts sot.part || other)) h).1 in
      (or_parts (nat_le sot.parts sot.part) other (both (nat_lt 0 sot.parts) (nat_le sot.parts sot.part || other) some rest)).1;
}

told_joins : (told parts number : ℕ) → 0 < parts → (nat_lt 0 told && not (told == parts)) ≡ false
    → ((nat_lt 0 told && not (told == number)) || (nat_lt 0 parts && not (parts == number))) ≡ (nat_lt 0 parts && not (parts == number))
told_joins told parts number some h = grind (arith, nat_tests)

module _ (parts : List PlacedPart) (p : PlacedPart) (counts told : List ℕ) (inside : p.sot.tile < length counts) (size : length told ≡ length counts) (tracks : Tracks parts counts told)
    (turn : InTurn p.sot (length (parts_of p.sot.tile parts)) (told_other p.sot.parts (parts_of p.sot.tile parts))) where
  counted : (tile : ℕ) → tile < length (set counts p.sot.tile (p.sot.part + 1)) → get_or (set counts p.sot.tile (p.sot.part + 1)) tile 0 ≡ length (parts_of tile (parts ++ p ∷ []))
  counted tile within =
      let within_old : tile < length counts = omega (arith, length-set {A = ℕ} counts p.sot.tile (p.sot.part + 1)) in
      elim (cases_eq tile p.sot.tile) [
        | inl e ↦
            rw (get_or-set_at counts p.sot.tile tile (p.sot.part + 1) 0 e inside, own_more tile parts p (sym e))
            (omega (arith, turn.number, length-append (parts_of tile parts) (p ∷ []), ap (λ (t : ℕ). length (parts_of t parts)) e))
        | inr n ↦
            rw (get_or-set_other counts p.sot.tile tile (p.sot.part + 1) 0 n, own_same tile parts p (λ e. n (sym e))) (tracks.count tile within_old)
      ]

  told_before : (tile number : ℕ) → tile < length told → told_other number (parts_of tile parts) ≡ (nat_lt 0 (get_or told tile 0) && not (get_or told tile 0 == number))
  told_before = tracks.others

  kept_told : nat_lt 0 p.sot.parts ≡ false → (tile number : ℕ) → tile < length told
      → told_other number (parts_of tile (parts ++ p ∷ [])) ≡ (nat_lt 0 (get_or told tile 0) && not (get_or told tile 0 == number))
  kept_told none tile number within =
      elim (cases_eq p.sot.tile tile) [
        | inl e ↦ rw (own_more tile parts p e) (other_more number (parts_of tile parts) p ∙ rw none (or_false (told_other number (parts_of tile parts)) ∙ tracks.others tile number within))
        | inr n ↦ rw (own_same tile parts p n) (tracks.others tile number within)
      ]

  new_told : nat_lt 0 p.sot.parts ≡ true → (tile number : ℕ) → tile < length (set told p.sot.tile p.sot.parts)
      → told_other number (parts_of tile (parts ++ p ∷ [])) ≡ (nat_lt 0 (get_or (set told p.sot.tile p.sot.parts) tile 0) && not (get_or (set told p.sot.tile p.sot.parts) tile 0 == number))
  new_told some tile number within =
      let within_old : tile < length told = omega (arith, length-set {A = ℕ} told p.sot.tile p.sot.parts) in
      let inside_told : p.sot.tile < length told = omega arith in
      let positive : 0 < p.sot.parts = ltb-true 0 p.sot.parts some in
      elim (cases_eq tile p.sot.tile) [
        | inl e ↦
            let old = told_before tile number within_old in
            let agrees : (nat_lt 0 (get_or told tile 0) && not (get_or told tile 0 == p.sot.parts)) ≡ false =
            sym (told_before tile p.sot.parts within_old) ∙ ap (λ (t : ℕ). told_other p.sot.parts (parts_of t parts)) e ∙ turn.same some in
            rw (get_or-set_at told p.sot.tile tile p.sot.parts 0 e inside_told, own_more tile parts p (sym e))
            (other_more number (parts_of tile parts) p ∙ ap (λ (x : Bool). x || (nat_lt 0 p.sot.parts && not (p.sot.parts == number))) old
            ∙ told_joins (get_or told tile 0) p.sot.parts number positive agrees)
        | inr n ↦
            rw (get_or-set_other told p.sot.tile tile p.sot.parts 0 n, own_same tile parts p (λ e. n (sym e))) (told_before tile number within_old)
      ]

  told_after : (tile number : ℕ) → tile < length (cond (nat_lt 0 p.sot.parts) (set told p.sot.tile p.sot.parts) told)
      → told_other number (parts_of tile (parts ++ p ∷ [])) ≡ (nat_lt 0 (get_or (cond (nat_lt 0 p.sot.parts) (set told p.sot.tile p.sot.parts) told) tile 0)
      && not (get_or (cond (nat_lt 0 p.sot.parts) (set told p.sot.tile p.sot.parts) told) tile 0 == number))
  told_after tile number =
      elim (cases_Bool (nat_lt 0 p.sot.parts)) [
        | inl t ↦ rw t (new_told t tile number)
        | inr f ↦ rw f (kept_told f tile number)
      ]

  tracks_counted : Tracks (parts ++ p ∷ []) (set counts p.sot.tile (p.sot.part + 1)) (cond (nat_lt 0 p.sot.parts) (set told p.sot.tile p.sot.parts) told)
  tracks_counted = record { count = counted; others = told_after }

-- where nothing is violated the SOT comes in turn
turn_of : (packed : Bool) (comps tiles : ℕ) (b : List ℕ) (out : Bool) (at : ℕ) → part_fault packed comps tiles b out at ≡ None → out ≡ false
unfolding part_fault sot_fault
turn_of packed comps tiles b out at h =
    let one = none_later (start_fault comps b at) (option_or (sot_fault tiles b at (sot_in b at) out) (option_or (header_fault (kind_of packed (sot_in b at)) comps b (after_sot b at)) (sod_fault b at (sot_in b at) (part_header packed comps b at).end))) h in
    let two = none_first (sot_fault tiles b at (sot_in b at) out) (option_or (header_fault (kind_of packed (sot_in b at)) comps b (after_sot b at)) (sod_fault b at (sot_in b at) (part_header packed comps b at).end)) one in
    let three = none_first (option_or (broken NO_TILE at (nat_le tiles (sot_in b at).tile)) (broken PART_NUMBER at out)) (broken PART_LENGTH at (has_wrong_length b at (sot_in b at))) two in
    broken_none PART_NUMBER at out (none_later (broken NO_TILE at (nat_le tiles (sot_in b at).tile)) (broken PART_NUMBER at out) three)

sot_of_part : (packed : Bool) (comps : ℕ) (b : List ℕ) (at : ℕ) (p : PlacedPart) → p ≡ part_at packed comps b at → p.sot ≡ sot_in b at
unfolding part_at
sot_of_part packed comps b at p h = ap (λ (x : PlacedPart). x.sot) h

pub tracks_more : (packed : Bool) (comps tiles : ℕ) (b : List ℕ) (parts items : List PlacedPart) (p : PlacedPart) (at : ℕ) (counts told after known : List ℕ) → fault_after packed comps tiles b parts at ≡ None
    → p ≡ part_at packed comps b at → p.sot.tile < length counts → length told ≡ length counts → items ≡ parts ++ p ∷ []
    → after ≡ set counts p.sot.tile (p.sot.part + 1) → known ≡ cond (nat_lt 0 p.sot.parts) (set told p.sot.tile p.sot.parts) told → Tracks parts counts told → Tracks items after known
tracks_more packed comps tiles b parts items p at counts told after known clear is inside size all new new_known tracks =
    let e : sot_in b at ≡ p.sot = sym (sot_of_part packed comps b at p is) in
    let out : comes_out_of_turn parts p.sot ≡ false = sym (ap (comes_out_of_turn parts) e) ∙ turn_of packed comps tiles b (comes_out_of_turn parts (sot_in b at)) at clear in
    let turn : InTurn p.sot (length (parts_of p.sot.tile parts)) (told_other p.sot.parts (parts_of p.sot.tile parts)) = in_turn p.sot (length (parts_of p.sot.tile parts)) (told_other p.sot.parts (parts_of p.sot.tile parts)) out in
    rw (all, new, new_known) (tracks_counted parts p counts told inside size tracks turn)

pub turn_at : (packed : Bool) (comps tiles : ℕ) (b : List ℕ) (parts : List PlacedPart) (counts told : List ℕ) (at : ℕ) → length counts ≡ tiles → length told ≡ length counts → Tracks parts counts told
    → part_fault packed comps (length counts) b (tables_say counts told (sot_in b at)) at ≡ fault_after packed comps tiles b parts at
turn_at packed comps tiles b parts counts told at count size tracks =
    turn_same packed comps b parts counts told at size tracks ∙ ap (λ (n : ℕ). fault_after packed comps n b parts at) count
