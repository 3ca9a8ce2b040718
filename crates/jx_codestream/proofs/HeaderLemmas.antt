-- Headers and the tables of their slots.
use Rattle.std.proofs.Common.{◌≡◌, ◌≢◌, ◌∙◌, ◌<◌, ◌≤◌, ◌+◌, ◌-◌, ◌==◌, ◌||◌, ◌&&◌, ℕ, zero, suc, Bool, true, false, nat_lt, arith, List, [], ◌∷◌, ◌++◌, length, drop, get_or, refl, sym, ap, subst, Some, None, cond, Result, Err, inl, inr}
use Rattle.std.proofs.Math.ListN.{set}
use Rattle.std.proofs.lemmas.Bool.Decides.{nat_tests}
use Rattle.std.proofs.lemmas.List.Folds.{list_any-append}
use Rattle.std.proofs.lemmas.List.{drop_all, get_or-set_other, length-set}
use Rattle.std.proofs.lemmas.Grind.{get_or-set_at}
use Rattle.jx_marker.specs.declared.Rule.{Rule}
use Rattle.jx_marker.specs.declared.Rule.TheVariants as rule
use Rattle.jx_marker.specs.declared.Segment.TheVariants as segment
use Rattle.jx_marker.specs.declared.Segment.{Segment}
use Rattle.jx_marker.specs.Rules.{first_broken, breaks_2, breaks_1}
use Rattle.jx_marker.specs.Segments.{segment_at, size_at, code_at, length_at}
use Rattle.jx_marker.specs.Markers.{has_length}
use Rattle.jx_marker.specs.Ranges.{InRange}
use Rattle.jx_marker.specs.RuleNumbers.{LENGTH, MISPLACED, PACKED_HEADERS, TWICE}
use Rattle.jx_codestream.specs.declared.faults.StreamFault.{StreamFault}
use Rattle.jx_codestream.specs.declared.faults.StreamFault.TheVariants as fault
use Rattle.jx_codestream.specs.declared.headers.HeaderKind.{HeaderKind}
use Rattle.jx_codestream.specs.declared.headers.Header.{Header}
use Rattle.jx_codestream.specs.Faults.{fault_of, IsCause}
use Rattle.jx_codestream.specs.Headers.{stands_in, ends_header, is_packed_twice, slot_of, slot_count, has_slot, is_second, early_fault, segment_fault, stops, longest, header_at, header_fault, MarksSlots}
use Rattle.jx_codestream.proofs.FaultLemmas.{broken_false, broken_true}
use Rattle.std.proofs.lemmas.Bool.{cases_Bool, cases_eq, eq-eqb, ne_eqb, or_right, le-ltb}
use Rattle.jx_base.proofs.Tests.{or_false}

-- SOT and SOD may stand again
pub ends_once : (before : List Segment) (s : Segment) → ends_header s ≡ true → is_second before s ≡ false
ends_once before (segment.Sot sot) h = refl
ends_once before segment.Sod h = refl
ends_once before _ h = absurd (cc)

-- the first violation at a place, before rule 18

pub early_clear : (kind : HeaderKind) (comps : ℕ) (b : List ℕ) (at : ℕ) → first_broken comps (drop at b) ≡ None → is_packed_twice kind (segment_at comps (drop at b)) ≡ false
    → stands_in kind (segment_at comps (drop at b)) ≡ true → early_fault kind comps b at ≡ None
unfolding early_fault
early_clear kind comps b at clear once stands = rw (clear, once, stands) refl

pub early_14 : (kind : HeaderKind) (comps : ℕ) (b : List ℕ) (at : ℕ) → first_broken comps (drop at b) ≡ None → is_packed_twice kind (segment_at comps (drop at b)) ≡ true
    → early_fault kind comps b at ≡ Some (fault.Rule PACKED_HEADERS at)
unfolding early_fault
early_14 kind comps b at clear twice = rw (clear, twice) refl

pub early_19 : (kind : HeaderKind) (comps : ℕ) (b : List ℕ) (at : ℕ) → first_broken comps (drop at b) ≡ None → is_packed_twice kind (segment_at comps (drop at b)) ≡ false
    → stands_in kind (segment_at comps (drop at b)) ≡ false → early_fault kind comps b at ≡ Some (fault.Rule MISPLACED at)
unfolding early_fault
early_19 kind comps b at clear once stands = rw (clear, once, stands) refl

pub early_broken : (kind : HeaderKind) (comps : ℕ) (b : List ℕ) (at m : ℕ) → first_broken comps (drop at b) ≡ Some m → early_fault kind comps b at ≡ Some (fault.Rule m at)
unfolding early_fault
early_broken kind comps b at m h = rw h refl

pub early_cause : (kind : HeaderKind) (comps : ℕ) (b : List ℕ) (at : ℕ) (why : Rule) {X : Type 0} (x : Result X Rule) → x ≡ Err why
    → ((m : ℕ) → x ≡ Err (rule.Broken m) → first_broken comps (drop at b) ≡ Some m) → IsCause (fault_of why at) (early_fault kind comps b at)
early_cause kind comps b at (rule.Broken m) x is h = early_broken kind comps b at m (h m is)
early_cause kind comps b at rule.NoMemory x is h = tt

-- fewer bytes than a marker has

end_breaks : (comps : ℕ) (rest : List ℕ) → rest ≡ [] → first_broken comps rest ≡ Some LENGTH
unfolding breaks_2 breaks_1
end_breaks comps rest h = rw h refl

two_more : (b : Bool) (n : ℕ) → 2 ≤ (cond b (2 + n) 2)
two_more true n = omega arith
two_more false n = omega arith

pub size_is_two : (bytes : List ℕ) → 2 ≤ size_at bytes
size_is_two bytes = two_more (has_length (code_at bytes)) (length_at bytes)

-- where a header stops and where it goes on

pub goes_on : (kind : HeaderKind) (comps : ℕ) (b : List ℕ) (before : List Segment) (at : ℕ) → segment_fault kind comps b before at ≡ None
    → ends_header (segment_at comps (drop at b)) ≡ false → stops kind comps b before at ≡ false
unfolding stops
goes_on kind comps b before at clear inside = rw (clear, inside) refl

pub stops_at_fault : (kind : HeaderKind) (comps : ℕ) (b : List ℕ) (before : List Segment) (at : ℕ) (e : StreamFault) → segment_fault kind comps b before at ≡ Some e
    → stops kind comps b before at ≡ true
unfolding stops
stops_at_fault kind comps b before at e h = rw h refl

pub stops_at_end : (kind : HeaderKind) (comps : ℕ) (b : List ℕ) (before : List Segment) (at : ℕ) → segment_fault kind comps b before at ≡ None
    → ends_header (segment_at comps (drop at b)) ≡ true → stops kind comps b before at ≡ true
unfolding stops
stops_at_end kind comps b before at clear ends = rw (clear, ends) refl

pub fault_early : (kind : HeaderKind) (comps : ℕ) (b : List ℕ) (before : List Segment) (at : ℕ) (e : StreamFault) → early_fault kind comps b at ≡ Some e
    → segment_fault kind comps b before at ≡ Some e
unfolding segment_fault
fault_early kind comps b before at e h = rw h refl

pub fault_second : (kind : HeaderKind) (comps : ℕ) (b : List ℕ) (before : List Segment) (at : ℕ) → early_fault kind comps b at ≡ None
    → is_second before (segment_at comps (drop at b)) ≡ true → segment_fault kind comps b before at ≡ Some (fault.Rule TWICE at)
unfolding segment_fault
fault_second kind comps b before at clear second = rw (clear, broken_true TWICE at _ second) refl

pub fault_none : (kind : HeaderKind) (comps : ℕ) (b : List ℕ) (before : List Segment) (at : ℕ) → early_fault kind comps b at ≡ None
    → is_second before (segment_at comps (drop at b)) ≡ false → segment_fault kind comps b before at ≡ None
unfolding segment_fault
fault_none kind comps b before at clear second = rw (clear, broken_false TWICE at _ second) refl

pub stops_past : (kind : HeaderKind) (comps : ℕ) (b : List ℕ) (before : List Segment) (at : ℕ) → length b ≤ at → stops kind comps b before at ≡ true
stops_past kind comps b before at h =
    stops_at_fault kind comps b before at (fault.Rule LENGTH at) (fault_early kind comps b before at (fault.Rule LENGTH at) (early_broken kind comps b at LENGTH (end_breaks comps (drop at b) (drop_all at b h))))

pub longest_stops : (kind : HeaderKind) (comps : ℕ) (b : List ℕ) (n : ℕ) (before : List Segment) (at : ℕ) → stops kind comps b before at ≡ true
    → longest kind comps b n before at ≡ record { segments = before; end = at }
unfolding longest
longest_stops kind comps b zero before at h = refl
longest_stops kind comps b (suc n) before at h = rw h refl

pub longest_goes : (kind : HeaderKind) (comps : ℕ) (b : List ℕ) (n : ℕ) (before : List Segment) (at : ℕ) → stops kind comps b before at ≡ false
    → longest kind comps b (suc n) before at ≡ longest kind comps b n (before ++ segment_at comps (drop at b) ∷ []) (at + size_at (drop at b))
unfolding longest
longest_goes kind comps b n before at h = rw h refl

-- so many steps that there are no more bytes: it doesn't matter how many
longest_same : (kind : HeaderKind) (comps : ℕ) (b : List ℕ) (n m : ℕ) (before : List Segment) (at : ℕ) → length b - at ≤ n → length b - at ≤ m
    → longest kind comps b n before at ≡ longest kind comps b m before at
longest_same kind comps b zero m before at below other =
    let past : length b ≤ at = omega arith in
    longest_stops kind comps b zero before at (stops_past kind comps b before at past) ∙ sym (longest_stops kind comps b m before at (stops_past kind comps b before at past))
longest_same kind comps b (suc n) zero before at below other =
    let past : length b ≤ at = omega arith in
    longest_stops kind comps b (suc n) before at (stops_past kind comps b before at past) ∙ sym (longest_stops kind comps b zero before at (stops_past kind comps b before at past))
longest_same kind comps b (suc n) (suc m) before at below other =
    elim (cases_Bool (stops kind comps b before at)) [
      | inl t ↦ longest_stops kind comps b (suc n) before at t ∙ sym (longest_stops kind comps b (suc m) before at t)
      | inr f ↦ let two : 2 ≤ size_at (drop at b) = size_is_two (drop at b) in
          let fewer : length b - (at + size_at (drop at b)) ≤ n = omega arith in
          let less : length b - (at + size_at (drop at b)) ≤ m = omega arith in
          longest_goes kind comps b n before at f
          ∙ longest_same kind comps b n m (before ++ segment_at comps (drop at b) ∷ []) (at + size_at (drop at b)) fewer less
          ∙ sym (longest_goes kind comps b m before at f)
    ]

-- one segment more
pub longest_on : (kind : HeaderKind) (comps : ℕ) (b : List ℕ) (before : List Segment) (at : ℕ) → at < length b → stops kind comps b before at ≡ false
    → longest kind comps b (length b) before at ≡ longest kind comps b (length b) (before ++ segment_at comps (drop at b) ∷ []) (at + size_at (drop at b))
longest_on kind comps b before at inside goes =
    let two : 2 ≤ size_at (drop at b) = size_is_two (drop at b) in
    let fewer : length b - (at + size_at (drop at b)) ≤ length b - 1 = omega arith in
    let most : length b - (at + size_at (drop at b)) ≤ length b = omega arith in
    let one : length b - at ≤ suc (length b - 1) = omega arith in
    let all : length b - at ≤ length b = omega arith in
    longest_same kind comps b (length b) (suc (length b - 1)) before at all one
    ∙ longest_goes kind comps b (length b - 1) before at goes
    ∙ longest_same kind comps b (length b - 1) (length b) (before ++ segment_at comps (drop at b) ∷ []) (at + size_at (drop at b)) fewer most

-- how a header is read, that was read up to a place

module _ (kind : HeaderKind) (comps : ℕ) (b : List ℕ) (start : ℕ) (before : List Segment) (at : ℕ)
    (same : longest kind comps b (length b) before at ≡ header_at kind comps b start) where
  stopped : stops kind comps b before at ≡ true → header_at kind comps b start ≡ record { segments = before; end = at }
  stopped h = sym same ∙ longest_stops kind comps b (length b) before at h

  pub stopped_fault : stops kind comps b before at ≡ true → header_fault kind comps b start ≡ segment_fault kind comps b before at
  stopped_fault h = ap (λ (header : Header). segment_fault kind comps b header.segments header.end) (stopped h)

  pub read_early : (e : StreamFault) → IsCause e (early_fault kind comps b at) → IsCause e (header_fault kind comps b start)
  read_early (fault.Rule number place) h =
      let here = fault_early kind comps b before at (fault.Rule number place) h in
      stopped_fault (stops_at_fault kind comps b before at (fault.Rule number place) here) ∙ here
  read_early (fault.Limit number found) h =
      let here = fault_early kind comps b before at (fault.Limit number found) h in
      stopped_fault (stops_at_fault kind comps b before at (fault.Limit number found) here) ∙ here
  read_early fault.NoMemory h = tt

  pub read_second : early_fault kind comps b at ≡ None → is_second before (segment_at comps (drop at b)) ≡ true
      → header_fault kind comps b start ≡ Some (fault.Rule TWICE at)
  read_second clear second =
      let here = fault_second kind comps b before at clear second in
      stopped_fault (stops_at_fault kind comps b before at (fault.Rule TWICE at) here) ∙ here

  pub read_end : early_fault kind comps b at ≡ None → ends_header (segment_at comps (drop at b)) ≡ true
      → (header_fault kind comps b start ≡ None) × (header_at kind comps b start ≡ record { segments = before; end = at })
  read_end clear ends =
      let here = fault_none kind comps b before at clear (ends_once before (segment_at comps (drop at b)) ends) in
      let stop = stops_at_end kind comps b before at here ends in
      (stopped_fault stop ∙ here, stopped stop)

  pub read_on : at < length b → early_fault kind comps b at ≡ None → is_second before (segment_at comps (drop at b)) ≡ false → ends_header (segment_at comps (drop at b)) ≡ false
      → longest kind comps b (length b) (before ++ segment_at comps (drop at b) ∷ []) (at + size_at (drop at b)) ≡ header_at kind comps b start
  read_on inside clear single goes =
      sym (longest_on kind comps b before at inside (goes_on kind comps b before at (fault_none kind comps b before at clear single) goes)) ∙ same

-- the table of the header's slots

has_more : (slot : ℕ) (before : List Segment) (s : Segment) → has_slot slot (before ++ s ∷ []) ≡ (has_slot slot before || (slot_of s == slot))
has_more slot before s = list_any-append (λ (x : Segment). slot_of x == slot) before (s ∷ []) ∙ ap (λ (x : Bool). has_slot slot before || x) (or_false (slot_of s == slot))

has_this : (slot : ℕ) (before : List Segment) (s : Segment) → slot_of s ≡ slot → has_slot slot (before ++ s ∷ []) ≡ true
has_this slot before s h = has_more slot before s ∙ rw (eq-eqb (slot_of s) slot h) (or_right (has_slot slot before) true refl)

has_other : (slot : ℕ) (before : List Segment) (s : Segment) → slot_of s ≢ slot → has_slot slot (before ++ s ∷ []) ≡ has_slot slot before
has_other slot before s h = has_more slot before s ∙ rw (ne_eqb (slot_of s) slot h) (or_false (has_slot slot before))

marks_slot : (start : ℕ) (before : List Segment) (s : Segment) (seen : List ℕ) → slot_of s < length seen → MarksSlots start before seen
    → MarksSlots start (before ++ s ∷ []) (set seen (slot_of s) start)
marks_slot start before s seen inside marks = record {
  each = λ slot some within.
      elim (cases_eq slot (slot_of s)) [
        | inl e ↦
            rw (get_or-set_at seen (slot_of s) slot start 0 e inside) (eq-eqb start start refl ∙ sym (has_this slot before s (sym e)))
        | inr n ↦
            let within_old : slot < length seen = omega (arith, length-set {A = ℕ} seen (slot_of s) start) in
            let other : slot_of s ≢ slot = λ e. n (sym e) in
            rw (get_or-set_other seen (slot_of s) slot start 0 n) (marks.each slot some within_old ∙ sym (has_other slot before s other))
      ];
  most = λ slot.
      elim (cases_eq slot (slot_of s)) [
        | inl e ↦ rw (get_or-set_at seen (slot_of s) slot start 0 e inside) (omega arith)
        | inr n ↦ rw (get_or-set_other seen (slot_of s) slot start 0 n) (marks.most slot)
      ];
}

marks_free : (start : ℕ) (before : List Segment) (s : Segment) (seen : List ℕ) → slot_of s ≡ 0 → MarksSlots start before seen → MarksSlots start (before ++ s ∷ []) seen
marks_free start before s seen free marks = record {
  each = λ slot some within.
      let other : slot_of s ≢ slot = λ e. absurd (omega arith) in
      marks.each slot some within ∙ sym (has_other slot before s other);
  most = marks.most;
}

above : (n : ℕ) → n ≢ 0 → nat_lt 0 n ≡ true
above n h = grind (arith, nat_tests)

pub marks_more : (start : ℕ) (before : List Segment) (s : Segment) (seen after : List ℕ) → slot_of s < length seen
    → after ≡ cond (nat_lt 0 (slot_of s)) (set seen (slot_of s) start) seen → MarksSlots start before seen → MarksSlots start (before ++ s ∷ []) after
marks_more start before s seen after inside e marks =
    let P : List ℕ → Type 0 = λ x. MarksSlots start (before ++ s ∷ []) x in
    elim (cases_eq (slot_of s) 0) [
      | inl free ↦
          let is : seen ≡ after = sym (e ∙ ap (λ (x : Bool). cond x (set seen (slot_of s) start) seen) (le-ltb 0 (slot_of s) (omega (arith, free)))) in
          subst P is (marks_free start before s seen free marks)
      | inr taken ↦
          let is : set seen (slot_of s) start ≡ after = sym (e ∙ ap (λ (x : Bool). cond x (set seen (slot_of s) start) seen) (above (slot_of s) taken)) in
          subst P is (marks_slot start before s seen inside marks)
    ]

-- the table answers rule 18
pub second_is : (start : ℕ) (before : List Segment) (s : Segment) (seen : List ℕ) (found : Bool) → slot_of s < length seen → MarksSlots start before seen
    → found ≡ (nat_lt 0 (slot_of s) && (get_or seen (slot_of s) 0 == start)) → is_second before s ≡ found
second_is start before s seen found inside marks e =
    elim (cases_eq (slot_of s) 0) [
      | inl free ↦ rw (e, le-ltb 0 (slot_of s) (omega (arith, free))) refl
      | inr taken ↦
          let some : 0 < slot_of s = omega arith in
          rw (e, marks.each (slot_of s) some inside) refl
    ]

-- the same for a slot that the code has counted

pub slot_inside : (comps : ℕ) (s : Segment) → InRange comps s → slot_of s < slot_count comps
slot_inside comps (segment.Coc comp shape) range = omega (arith, range.index)
slot_inside comps (segment.Qcc comp quant) range = omega (arith, range.index)
slot_inside comps (segment.Rgn comp shift) range = omega (arith, range.index)
slot_inside comps (segment.Ppm index bytes) range = omega (arith, range.index_fits)
slot_inside comps (segment.Ppt index bytes) range = omega (arith, range.index_fits)
slot_inside comps _ range = omega arith

pub second_at : (comps start : ℕ) (before : List Segment) (s : Segment) (slot : ℕ) (seen : List ℕ) (found : Bool) → slot ≡ slot_of s → InRange comps s
    → length seen ≡ slot_count comps → MarksSlots start before seen
    → found ≡ (nat_lt 0 slot && (get_or seen slot 0 == start)) → is_second before s ≡ found
second_at comps start before s slot seen found e range size marks answer =
    let inside : slot_of s < length seen = omega (arith, slot_inside comps s range) in
    second_is start before s seen found inside marks (answer ∙ ap (λ (n : ℕ). nat_lt 0 n && (get_or seen n 0 == start)) e)

pub marks_at : (comps start : ℕ) (before items : List Segment) (s : Segment) (slot : ℕ) (seen after : List ℕ) → slot ≡ slot_of s → InRange comps s
    → length seen ≡ slot_count comps → after ≡ cond (nat_lt 0 slot) (set seen slot start) seen → items ≡ before ++ s ∷ [] → MarksSlots start before seen → MarksSlots start items after
marks_at comps start before items s slot seen after e range size is all marks =
    let inside : slot_of s < length seen = omega (arith, slot_inside comps s range) in
    let P : List Segment → Type 0 = λ x. MarksSlots start x after in
    subst P (sym all) (marks_more start before s seen after inside (is ∙ ap (λ (n : ℕ). cond (nat_lt 0 n) (set seen n start) seen) e) marks)

-- the header goes on by the segment that was read
pub read_more : (kind : HeaderKind) (comps : ℕ) (b : List ℕ) (start : ℕ) (before items : List Segment) (s : Segment) (at next : ℕ)
    → longest kind comps b (length b) before at ≡ header_at kind comps b start → at < length b → early_fault kind comps b at ≡ None
    → s ≡ segment_at comps (drop at b) → is_second before s ≡ false → ends_header s ≡ false → items ≡ before ++ s ∷ [] → next ≡ at + size_at (drop at b)
    → longest kind comps b (length b) items next ≡ header_at kind comps b start
read_more kind comps b start before items s at next same inside clear is single goes all after =
    ap (λ (n : ℕ). longest kind comps b (length b) items n) after
    ∙ ap (λ (x : List Segment). longest kind comps b (length b) x (at + size_at (drop at b))) (all ∙ ap (λ (x : Segment). before ++ x ∷ []) is)
    ∙ read_on kind comps b start before at same inside clear (sym (ap (is_second before) is) ∙ single) (sym (ap ends_header is) ∙ goes)

pub progress : (b : List ℕ) (at next : ℕ) → next ≡ at + size_at (drop at b) → next ≤ length b → (at < length b) × (length b - next < length b - at) × (at ≤ next)
progress b at next after within =
    let two : 2 ≤ size_at (drop at b) = size_is_two (drop at b) in
    (omega arith, omega arith, omega arith)

-- a header doesn't end before its start
pub longest_rises : (kind : HeaderKind) (comps : ℕ) (b : List ℕ) (n : ℕ) (before : List Segment) (at : ℕ) → at ≤ (longest kind comps b n before at).end
unfolding longest
longest_rises kind comps b zero before at = omega arith
longest_rises kind comps b (suc n) before at =
    elim (cases_Bool (stops kind comps b before at)) [
      | inl t ↦ rw (longest_stops kind comps b (suc n) before at t) (omega arith)
      | inr f ↦
          let later : at + size_at (drop at b) ≤ (longest kind comps b n (before ++ segment_at comps (drop at b) ∷ []) (at + size_at (drop at b))).end =
          longest_rises kind comps b n (before ++ segment_at comps (drop at b) ∷ []) (at + size_at (drop at b)) in
          rw (longest_goes kind comps b n before at f) (omega arith)
    ]
