-- What the rules on coded bytes say of them, where none is violated.
use Rattle.std.proofs.Common.{◌≡◌, ℕ, suc, ◌+◌, ◌<◌, ◌≤◌, ◌==◌, ◌&&◌, ◌||◌, nat_lt, Bool, false, List, [], ◌∷◌, length, take, drop, refl, sym, ap, ◌∙◌, subst, arith, Some, None, inl, inr, ◌⊎◌, Option, get_or, find, slice_index}
use Rattle.std.specs.List.{range_with_len}
use Rattle.std.specs.Option.{option_or}
use Rattle.std.proofs.lemmas.Bool.{eq-eqb, and_cases, or_parts, ltb-false, both_ways, true≢false}
use Rattle.jx_base.specs.Markers.{HasNoMarker}
use Rattle.jx_packet_header.specs.declared.HeaderPart.{HeaderPart}
use Rattle.jx_codestream.specs.Faults.{broken}
use Rattle.jx_tier2_reader.specs.Data.{front_length, eph_fault, parts_length, is_marked, first_mark, rule_30, marks_fault, body_fault}
use Rattle.std.proofs.lemmas.List.FromFn.{get_or-range_with_len, length-range_with_len}
use Rattle.jx_base.proofs.Lists.{find_none}
use Rattle.jx_codestream.proofs.FaultLemmas.{none_later as or_later, none_first as or_first, broken_none}

-- ---- rule 30
-- none of a range
range_none : (p : ℕ → Bool) (a n i : ℕ) → find p (range_with_len a n) ≡ None → i < n → p (a + i) ≡ false
range_none p a n i h lt =
    let inside : i < length (range_with_len a n) = subst (λ (k : ℕ). i < k) (sym (length-range_with_len a n)) lt in
    subst (λ (m : ℕ). p m ≡ false) (get_or-range_with_len a n i 0 lt) (find_none p (range_with_len a n) h i 0 inside)

-- what stands after FF
abbrev MayFollow : List ℕ → Type 0
MayFollow [] = ⊥
MayFollow (byte ∷ rest) = byte ≤ 143

follows : (byte : ℕ) (rest : List ℕ) → is_marked (byte ∷ rest) 0 ≡ false → byte ≡ 255 → MayFollow rest
follows byte [] h e = by (and_cases (byte == 255) ((1 == 1) || nat_lt 143 0) h)
  where
    by : ((byte == 255) ≡ false) ⊎ (((1 == 1) || nat_lt 143 0) ≡ false) → ⊥
    by (inl f) = both_ways (byte == 255) f (eq-eqb byte 255 e)
    by (inr f) = true≢false f
follows byte (next ∷ rest) h e = by (and_cases (byte == 255) ((1 == suc (suc (length rest))) || nat_lt 143 next) h)
  where
    by : ((byte == 255) ≡ false) ⊎ (((1 == suc (suc (length rest))) || nat_lt 143 next) ≡ false) → next ≤ 143
    by (inl f) = absurd (both_ways (byte == 255) f (eq-eqb byte 255 e))
    by (inr f) = ltb-false 143 next (or_parts (1 == suc (suc (length rest))) (nat_lt 143 next) f).1

pub later_mark : (byte : ℕ) (rest : List ℕ) (i : ℕ) → is_marked (byte ∷ rest) (suc i) ≡ is_marked rest i
later_mark byte rest i =
    let e : suc i + 1 ≡ suc (i + 1) = omega arith in
    ap (λ (n : ℕ). (slice_index rest i == 255) && ((n == suc (length rest)) || nat_lt 143 (get_or (byte ∷ rest) n 0))) e
    ∙ ap (λ (b : Bool). (slice_index rest i == 255) && (b || nat_lt 143 (slice_index rest (i + 1)))) (same (i + 1) (length rest))
  where
    same : (m n : ℕ) → (suc m == suc n) ≡ (m == n)
    same m n = grind arith

no_marker : (before : ℕ) (bytes : List ℕ) → (before ≡ 255 → MayFollow bytes) → ((i : ℕ) → i < length bytes → is_marked bytes i ≡ false) → HasNoMarker before bytes
no_marker before [] f h = f
no_marker before (byte ∷ rest) f h =
    (f, no_marker byte rest (follows byte rest (h 0 (omega arith))) (λ (i : ℕ) (lt : i < length rest). sym (later_mark byte rest i) ∙ h (suc i) (omega arith)))

pub unmarked : (bytes : List ℕ) → first_mark bytes ≡ None → HasNoMarker 0 bytes
unfolding first_mark
unmarked bytes h =
    no_marker 0 bytes (λ (e : 0 ≡ 255). absurd (let e' : 0 ≡ 255 = e in omega arith))
    (λ (i : ℕ) (lt : i < length bytes). let e : 0 + i ≡ i = omega arith in subst (λ (m : ℕ). is_marked bytes m ≡ false) e (range_none (is_marked bytes) 0 (length bytes) i h lt))

pub rule_none : (at : ℕ) (m : Option ℕ) → rule_30 at m ≡ None → m ≡ None
rule_none at None h = refl
rule_none at (Some i) h = absurd cc

-- the first of some pieces, and the others
pub mark_here : (at : ℕ) (bytes : List ℕ) (p : HeaderPart) (parts : List HeaderPart) → marks_fault at bytes (p ∷ parts) ≡ None → HasNoMarker 0 (take p.length bytes)
mark_here at bytes p parts h =
    let first = first_mark (take p.length bytes) in
    unmarked (take p.length bytes) (rule_none at first (or_first (rule_30 at first) (marks_fault (at + p.length) (drop p.length bytes) parts) h))

pub marks_later : (at : ℕ) (bytes : List ℕ) (p : HeaderPart) (parts : List HeaderPart) → marks_fault at bytes (p ∷ parts) ≡ None → marks_fault (at + p.length) (drop p.length bytes) parts ≡ None
marks_later at bytes p parts h = or_later (rule_30 at (first_mark (take p.length bytes))) (marks_fault (at + p.length) (drop p.length bytes) parts) h

-- ---- rules 28 and 30 at a packet

pub body_fits : (packed : Option (List ℕ)) (w : List ℕ) (at used : ℕ) (parts : List HeaderPart) → body_fault packed w at used parts ≡ None → front_length packed w used + parts_length parts ≤ length w
unfolding body_fault
body_fits packed w at used parts h =
    let n : ℕ = front_length packed w used in
    let b : Bool = nat_lt (length w) (n + parts_length parts) in
    let later = or_later (eph_fault packed at used) (option_or (broken 28 at b) (marks_fault (at + n) (drop n w) parts)) h in
    ltb-false (length w) (n + parts_length parts) (broken_none 28 at b (or_first (broken 28 at b) (marks_fault (at + n) (drop n w) parts) later))

pub body_marks : (packed : Option (List ℕ)) (w : List ℕ) (at used : ℕ) (parts : List HeaderPart) → body_fault packed w at used parts ≡ None → marks_fault (at + front_length packed w used) (drop (front_length packed w used) w) parts ≡ None
unfolding body_fault
body_marks packed w at used parts h =
    let n : ℕ = front_length packed w used in
    let first = broken 28 at (nat_lt (length w) (n + parts_length parts)) in
    or_later first (marks_fault (at + n) (drop n w) parts) (or_later (eph_fault packed at used) (option_or first (marks_fault (at + n) (drop n w) parts)) h)
