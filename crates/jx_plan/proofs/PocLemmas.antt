-- A header stays one where a POC is put into it that it hasn't, or in place of its own.
use Rattle.std.proofs.Common.{◌≡◌, ◌∙◌, ◌==◌, ◌&&◌, ℕ, Bool, true, false, arith, List, [], ◌∷◌, ◌++◌, map, take, drop, nat_lt, refl, sym, ap, subst, Option, Some, None, inl, inr, append-nil}
use Rattle.std.specs.List.{list_any}
use Rattle.std.proofs.lemmas.Bool.{cases_Bool, or_parts}
use Rattle.std.proofs.lemmas.Bool.Decides.{nat_tests}
use Rattle.std.proofs.lemmas.List.{append_assoc, take-append-drop}
use Rattle.jx_marker.specs.declared.Progression.{Progression}
use Rattle.jx_marker.specs.declared.Segment.{Segment}
use Rattle.jx_marker.specs.declared.Segment.TheVariants as segment
use Rattle.jx_marker.specs.Ranges.{InRange, PocInRange}
use Rattle.jx_codestream.specs.declared.headers.HeaderKind.{HeaderKind}
use Rattle.jx_codestream.specs.declared.headers.HeaderKind.TheVariants.{Main, First, Later, PackedFirst, PackedLater}
use Rattle.jx_codestream.specs.Headers.{slot_of, has_slot, is_second, stands_in, ends_header, is_beside_ppm, is_ppt}
use Rattle.jx_codestream.specs.Spells.{IsSegment, AreSegments}
use Rattle.jx_plan.specs.Changes.{coding_end, is_poc, poc_of, put_entries, volumes_written, with_entries}
use Rattle.jx_plan.specs.Headers.{HeaderOptions, all_written, is_written, main_written, written}
use Rattle.jx_plan.proofs.ChangeLemmas.{put_slot_of}
use Rattle.jx_plan.proofs.StandLemmas.{Fewer, has_before, has_neither}

-- ---- segments one behind another
pub split : (kind : HeaderKind) (comps : ℕ) (before xs ys : List Segment) → AreSegments kind comps before (xs ++ ys)
    → AreSegments kind comps before xs × AreSegments kind comps (before ++ xs) ys
split kind comps before [] ys are = (tt, subst (λ (zs : List Segment). AreSegments kind comps zs ys) (sym (append-nil before)) are)
split kind comps before (x ∷ xs) ys are =
    let more = split kind comps (before ++ x ∷ []) xs ys are.1 in
    ((are.0, more.0), subst (λ (zs : List Segment). AreSegments kind comps zs ys) (append_assoc before (x ∷ []) xs) more.1)

pub join : (kind : HeaderKind) (comps : ℕ) (before xs ys : List Segment) → AreSegments kind comps before xs → AreSegments kind comps (before ++ xs) ys
    → AreSegments kind comps before (xs ++ ys)
join kind comps before [] ys front back = subst (λ (zs : List Segment). AreSegments kind comps zs ys) (append-nil before) back
join kind comps before (x ∷ xs) ys front back =
    (front.0, join kind comps (before ++ x ∷ []) xs ys front.1 (subst (λ (zs : List Segment). AreSegments kind comps zs ys) (sym (append_assoc before (x ∷ []) xs)) back))

-- ---- the slot of a POC
slot_is : (s : Segment) → (slot_of s == 3) ≡ is_poc s
slot_is (segment.Poc entries) = refl
slot_is (segment.Coc comp shape) = grind (arith, nat_tests)
slot_is (segment.Qcc comp quant) = grind (arith, nat_tests)
slot_is (segment.Rgn comp shift) = grind (arith, nat_tests)
slot_is (segment.Ppm index bytes) = grind (arith, nat_tests)
slot_is (segment.Ppt index bytes) = grind (arith, nat_tests)
slot_is _ = refl

pub has_poc_slot : (ss : List Segment) → has_slot 3 ss ≡ list_any is_poc ss
has_poc_slot [] = refl
has_poc_slot (s ∷ ss) = rw (slot_is s, has_poc_slot ss) refl

swapped : (m n : ℕ) → (m == n) ≡ false → (n == m) ≡ false
swapped m n e = grind (arith, nat_tests)

-- ---- behind a POC more
once_beside : (xs ys : List Segment) (s : Segment) → is_poc s ≡ false → ((slot : ℕ) → (3 == slot) ≡ false → has_slot slot ys ≡ false → has_slot slot xs ≡ false) → is_second ys s ≡ false
    → is_second xs s ≡ false
once_beside xs ys s other f h = elim (cases_Bool (nat_lt 0 (slot_of s))) [
  | inl t ↦ rw t (f (slot_of s) (swapped (slot_of s) 3 (slot_is s ∙ other)) (rw t at h))
  | inr n ↦ rw n refl
]

beside_more : (xs ys : List Segment) (s : Segment) → ((slot : ℕ) → (3 == slot) ≡ false → has_slot slot ys ≡ false → has_slot slot xs ≡ false)
    → (slot : ℕ) → (3 == slot) ≡ false → has_slot slot (ys ++ s ∷ []) ≡ false → has_slot slot (xs ++ s ∷ []) ≡ false
beside_more xs ys s f slot other h =
    let e = has_before slot ys s h in
    has_neither slot xs s (f slot other e.0) e.1

beside : (kind : HeaderKind) (comps : ℕ) (xs ys ss : List Segment) → list_any is_poc ss ≡ false
    → ((slot : ℕ) → (3 == slot) ≡ false → has_slot slot ys ≡ false → has_slot slot xs ≡ false) → AreSegments kind comps ys ss → AreSegments kind comps xs ss
beside kind comps xs ys [] none f are = tt
beside kind comps xs ys (s ∷ ss) none f are =
    let e = or_parts (is_poc s) (list_any is_poc ss) none in (
      record { range = are.0.range; stands = are.0.stands; once_packed = are.0.once_packed; inside = are.0.inside; once = once_beside xs ys s e.0 f are.0.once },
      beside kind comps (xs ++ s ∷ []) (ys ++ s ∷ []) ss e.1 (beside_more xs ys s f) are.1,
    )

poc_segment : (kind : HeaderKind) (comps : ℕ) (before : List Segment) (es : List Progression) → stands_in kind (segment.Poc es) ≡ true → is_beside_ppm kind ≡ false
    → has_slot 3 before ≡ false → PocInRange comps es → IsSegment kind comps before (segment.Poc es)
poc_segment kind comps before es stands plain none range = record { range = range; stands = stands; once_packed = rw plain refl; inside = refl; once = none }

-- ---- the main header
pub written_app : (a : HeaderOptions) (xs ys : List Segment) → all_written a (xs ++ ys) ≡ all_written a xs ++ all_written a ys
written_app a [] ys = refl
written_app a (x ∷ xs) ys = elim (cases_Bool (is_written a.wanted.changes x)) [
  | inl t ↦ rw t (ap (λ (zs : List Segment). written a x ∷ zs) (written_app a xs ys))
  | inr f ↦ rw f (written_app a xs ys)
]

pub cut_written : (a : HeaderOptions) (n : ℕ) (main : List Segment) → all_written a (take n main) ++ all_written a (drop n main) ≡ all_written a main
cut_written a n main = sym (written_app a (take n main) (drop n main)) ∙ ap (λ (xs : List Segment). all_written a xs) (take-append-drop n main)

-- no POC of the input is written where volumes are asked
asked_none : (a : HeaderOptions) (entries : List Progression) (ss : List Segment) → a.wanted.changes ≡ Some entries → list_any is_poc (all_written a ss) ≡ false
asked_none a entries [] e = refl
asked_none a entries (s ∷ ss) e = elim (cases_Bool (is_written a.wanted.changes s)) [
  | inl t ↦ rw t (rw (one_none s (rw e at t)) (asked_none a entries ss e))
  | inr f ↦ rw f (asked_none a entries ss e)
]
  where
    one_none : (s : Segment) → is_written (Some entries) s ≡ true → is_poc (written a s) ≡ false
    one_none (segment.Poc own) t = absurd (cc)
    one_none (segment.Cod cod) t = refl
    one_none (segment.Coc comp shape) t = refl
    one_none _ t = refl

with_put : (kind : HeaderKind) (comps : ℕ) (front back : List Segment) (es : List Progression) → stands_in kind (segment.Poc es) ≡ true → is_beside_ppm kind ≡ false
    → list_any is_poc front ≡ false → list_any is_poc back ≡ false → PocInRange comps es → AreSegments kind comps [] (front ++ back)
    → AreSegments kind comps [] (front ++ (segment.Poc es ∷ back))
with_put kind comps front back es stands plain none later range are =
    let both = split kind comps [] front back are in
    let poc = poc_segment kind comps front es stands plain (has_poc_slot front ∙ none) range in
    join kind comps [] front (segment.Poc es ∷ back) both.0
    (poc, beside kind comps (front ++ segment.Poc es ∷ []) front back later (λ slot other h. has_neither slot front (segment.Poc es) h other) both.1)

pub main_stands : (a : HeaderOptions) (comps : ℕ) (main : List Segment)
    → ((e : Progression) (es : List Progression) → volumes_written comps a.wanted.changes ≡ e ∷ es → PocInRange comps (e ∷ es))
    → AreSegments Main comps [] (all_written a main) → AreSegments Main comps [] (main_written a comps main)
main_stands a comps main fit are =
    by (volumes_written comps a.wanted.changes) refl (subst (λ (xs : List Segment). AreSegments Main comps [] xs) (sym (cut_written a (coding_end main) main)) are)
  where
    some : (o : Option (List Progression)) (e : Progression) (es : List Progression) → volumes_written comps o ≡ e ∷ es → (entries : List Progression) × (o ≡ Some entries)
    some None e es is = absurd (cc)
    some (Some entries) e es is = (entries, refl)

    by : (put : List Progression) → volumes_written comps a.wanted.changes ≡ put
        → AreSegments Main comps [] (all_written a (take (coding_end main) main) ++ all_written a (drop (coding_end main) main))
        → AreSegments Main comps [] (all_written a (take (coding_end main) main) ++ (poc_of put ++ all_written a (drop (coding_end main) main)))
    by [] is h = h
    by (e ∷ es) is h =
        let asked = some a.wanted.changes e es is in
        with_put Main comps (all_written a (take (coding_end main) main)) (all_written a (drop (coding_end main) main)) (e ∷ es) refl refl (asked_none a asked.0 (take (coding_end main) main) asked.1) (asked_none a asked.0 (drop (coding_end main) main) asked.1)
        (fit e es is) h

-- ---- a tile's header
stands_put : (kind : HeaderKind) (es : List Progression) (s : Segment) → stands_in kind (put_entries es s) ≡ stands_in kind s
stands_put Main es (segment.Poc own) = refl
stands_put First es (segment.Poc own) = refl
stands_put Later es (segment.Poc own) = refl
stands_put PackedFirst es (segment.Poc own) = refl
stands_put PackedLater es (segment.Poc own) = refl
stands_put kind es _ = refl

ppt_put : (es : List Progression) (s : Segment) → is_ppt (put_entries es s) ≡ is_ppt s
ppt_put es (segment.Poc own) = refl
ppt_put es _ = refl

inside_put : (es : List Progression) (s : Segment) → ends_header (put_entries es s) ≡ ends_header s
inside_put es (segment.Poc own) = refl
inside_put es _ = refl

range_put : (comps : ℕ) (es : List Progression) (s : Segment) → PocInRange comps es → InRange comps s → InRange comps (put_entries es s)
range_put comps es (segment.Poc own) fit r = fit
range_put comps es _ fit r = r

once_put : (es : List Progression) (xs ys : List Segment) (s : Segment) → Fewer xs ys → is_second ys s ≡ false → is_second xs (put_entries es s) ≡ false
once_put es xs ys s f h = elim (cases_Bool (nat_lt 0 (slot_of s))) [
  | inl t ↦ rw (put_slot_of es s, t) (f (slot_of s) (rw t at h))
  | inr n ↦ rw (put_slot_of es s, n) refl
]

fewer_put : (es : List Progression) (xs ys : List Segment) (s : Segment) → Fewer xs ys → Fewer (xs ++ put_entries es s ∷ []) (ys ++ s ∷ [])
fewer_put es xs ys s f slot h =
    let e = has_before slot ys s h in
    has_neither slot xs (put_entries es s) (f slot e.0) (rw (put_slot_of es s) e.1)

put_stands : (kind : HeaderKind) (comps : ℕ) (es : List Progression) (xs ys ss : List Segment) → PocInRange comps es → Fewer xs ys → AreSegments kind comps ys ss
    → AreSegments kind comps xs (map (put_entries es) ss)
put_stands kind comps es xs ys [] fit f are = tt
put_stands kind comps es xs ys (s ∷ ss) fit f are = (
  record {
    range = range_put comps es s fit are.0.range;
    stands = stands_put kind es s ∙ are.0.stands;
    once_packed = ap (λ (ppt : Bool). is_beside_ppm kind && ppt) (ppt_put es s) ∙ are.0.once_packed;
    inside = inside_put es s ∙ are.0.inside;
    once = once_put es xs ys s f are.0.once;
  },
  put_stands kind comps es (xs ++ put_entries es s ∷ []) (ys ++ s ∷ []) ss fit (fewer_put es xs ys s f) are.1,
)

pub with_stands : (comps : ℕ) (es : List Progression) (ss : List Segment) → ((e : Progression) (more : List Progression) → es ≡ e ∷ more → PocInRange comps (e ∷ more))
    → AreSegments First comps [] ss → AreSegments First comps [] (with_entries es ss)
with_stands comps [] ss fit are = are
with_stands comps (e ∷ es) ss fit are = elim (cases_Bool (list_any is_poc ss)) [
  | inl some ↦ rw some (put_stands First comps (e ∷ es) [] [] ss (fit e es refl) (λ slot k. k) are)
  | inr none ↦ rw none (join First comps [] ss (segment.Poc (e ∷ es) ∷ []) are (poc_segment First comps ss (e ∷ es) refl refl (has_poc_slot ss ∙ none) (fit e es refl), tt))
]
