-- What bytes spell is what is read from them.
use Rattle.std.proofs.Common.{◌≡◌, ◌∙◌, ◌<◌, ◌+◌, ℕ, true, false, arith, List, [], ◌∷◌, ◌++◌, length, drop, refl, sym, ap, subst, None, inl, inr, add-zero}
use Rattle.std.proofs.lemmas.List.{append-nil, append_assoc, drop-drop, drop_at, length-append}
use Rattle.jx_marker.specs.declared.Segment.{Segment}
use Rattle.jx_marker.specs.declared.Segment.TheVariants as segment
use Rattle.jx_marker.specs.Segments.{spelling, segment_at, size_at}
use Rattle.jx_marker.specs.Ranges.{InRange}
use Rattle.jx_marker.specs.Laws.{StandsAt}
use Rattle.jx_marker.proofs.SpelledLemmas.{segment_is_read}
use Rattle.jx_codestream.specs.declared.headers.HeaderKind.{HeaderKind}
use Rattle.jx_codestream.specs.declared.headers.Header.{Header}
use Rattle.jx_codestream.specs.Headers.{stands_in, ends_header, is_second, is_beside_ppm, is_packed_twice, segment_fault, stops, longest, header_fault}
use Rattle.jx_codestream.specs.Spells.{all_bytes, AreSegments}
use Rattle.jx_codestream.proofs.HeaderLemmas.{early_clear, fault_none, goes_on, stops_at_end, stops_past, longest_stops, longest_on, ends_once}
use Rattle.std.proofs.lemmas.Bool.{cases_lt, and_right}

-- the segment that stands at a place, where its spelling does
pub stands_there : (comps : ℕ) (b : List ℕ) (at : ℕ) (s : Segment) (tail : List ℕ) → InRange comps s → drop at b ≡ spelling comps s ++ tail → StandsAt comps (drop at b) s (length (spelling comps s))
stands_there comps b at s tail range h =
    let P : List ℕ → Type 0 = λ x. StandsAt comps x s (length (spelling comps s)) in
    subst P (sym h) (segment_is_read comps s tail range)

pub drop_on : (b : List ℕ) (at n : ℕ) (front rest : List ℕ) → drop at b ≡ front ++ rest → length front ≡ n → drop (at + n) b ≡ rest
drop_on b at n front rest h size = sym (drop-drop n at b) ∙ ap (λ (x : List ℕ). drop n x) h ∙ drop_at front rest n size

inside_of : (kind : HeaderKind) (comps : ℕ) (b : List ℕ) (before : List Segment) (at : ℕ) → stops kind comps b before at ≡ false → at < length b
inside_of kind comps b before at goes =
    elim (cases_lt at (length b)) [
      | inl h ↦ h
      | inr past ↦ let wrong : true ≡ false = sym (stops_past kind comps b before at past) ∙ goes in absurd (cc)
    ]

-- segments that are spelled are walked over
pub header_walked : (kind : HeaderKind) (comps : ℕ) (b : List ℕ) (ss before : List Segment) (at : ℕ) (tail : List ℕ) → AreSegments kind comps before ss → drop at b ≡ all_bytes comps ss ++ tail
    → longest kind comps b (length b) before at ≡ longest kind comps b (length b) (before ++ ss) (at + length (all_bytes comps ss))
header_walked kind comps b [] before at tail are h =
    ap (λ (x : List Segment). longest kind comps b (length b) x at) (sym (append-nil before)) ∙ ap (λ (n : ℕ). longest kind comps b (length b) (before ++ []) n) (sym (add-zero at))
header_walked kind comps b (s ∷ ss) before at tail are h =
    let rest = all_bytes comps ss ++ tail in
    let front : drop at b ≡ spelling comps s ++ rest = h ∙ append_assoc (spelling comps s) (all_bytes comps ss) tail in
    let there = stands_there comps b at s rest are.0.range front in
    let clear = fault_none kind comps b before at (early_clear kind comps b at there.rules (ap (is_packed_twice kind) there.value ∙ are.0.once_packed) (ap (stands_in kind) there.value ∙ are.0.stands)) (ap (is_second before) there.value ∙ are.0.once) in
    let goes = goes_on kind comps b before at clear (ap ends_header there.value ∙ are.0.inside) in
    let later : drop (at + length (spelling comps s)) b ≡ rest = drop_on b at (length (spelling comps s)) (spelling comps s) rest front refl in
    let end : at + length (spelling comps s) + length (all_bytes comps ss) ≡ at + length (all_bytes comps (s ∷ ss)) = omega (arith, length-append (spelling comps s) (all_bytes comps ss)) in
    longest_on kind comps b before at (inside_of kind comps b before at goes) goes
    ∙ ap (λ (x : Segment). longest kind comps b (length b) (before ++ x ∷ []) (at + size_at (drop at b))) there.value
    ∙ ap (λ (n : ℕ). longest kind comps b (length b) (before ++ s ∷ []) (at + n)) there.takes
    ∙ header_walked kind comps b ss (before ++ s ∷ []) (at + length (spelling comps s)) tail are.1 later
    ∙ ap (λ (x : List Segment). longest kind comps b (length b) x (at + length (spelling comps s) + length (all_bytes comps ss))) (append_assoc before (s ∷ []) ss)
    ∙ ap (λ (n : ℕ). longest kind comps b (length b) (before ++ s ∷ ss) n) end

-- SOT and SOD are no PPT
end_alone : (kind : HeaderKind) (s : Segment) → ends_header s ≡ true → is_packed_twice kind s ≡ false
end_alone kind (segment.Sot sot) h = and_right (is_beside_ppm kind) false refl
end_alone kind segment.Sod h = and_right (is_beside_ppm kind) false refl
end_alone kind _ h = absurd (cc)

-- a header that is spelled is read up to its end
pub header_read : (kind : HeaderKind) (comps : ℕ) (b : List ℕ) (ss before : List Segment) (at : ℕ) (end : Segment) (tail : List ℕ) → AreSegments kind comps before ss → InRange comps end
    → ends_header end ≡ true → stands_in kind end ≡ true → drop at b ≡ all_bytes comps ss ++ (spelling comps end ++ tail)
    → longest kind comps b (length b) before at ≡ record { segments = before ++ ss; end = at + length (all_bytes comps ss) }
header_read kind comps b ss before at end tail are range ends stands h =
    let place = at + length (all_bytes comps ss) in
    let there = stands_there comps b place end tail range (drop_on b at (length (all_bytes comps ss)) (all_bytes comps ss) (spelling comps end ++ tail) h refl) in
    let last : ends_header (segment_at comps (drop place b)) ≡ true = ap ends_header there.value ∙ ends in
    let clear = fault_none kind comps b (before ++ ss) place (early_clear kind comps b place there.rules (ap (is_packed_twice kind) there.value ∙ end_alone kind end ends) (ap (stands_in kind) there.value ∙ stands)) (ends_once (before ++ ss) (segment_at comps (drop place b)) last) in
    header_walked kind comps b ss before at (spelling comps end ++ tail) are h ∙ longest_stops kind comps b (length b) (before ++ ss) place (stops_at_end kind comps b (before ++ ss) place clear last)

-- and nothing is violated where it ends
pub header_clear : (kind : HeaderKind) (comps : ℕ) (b : List ℕ) (ss : List Segment) (at : ℕ) (end : Segment) (tail : List ℕ) → AreSegments kind comps [] ss → InRange comps end
    → ends_header end ≡ true → stands_in kind end ≡ true → drop at b ≡ all_bytes comps ss ++ (spelling comps end ++ tail) → header_fault kind comps b at ≡ None
header_clear kind comps b ss at end tail are range ends stands h =
    let read = header_read kind comps b ss [] at end tail are range ends stands h in
    let place = at + length (all_bytes comps ss) in
    let there = stands_there comps b place end tail range (drop_on b at (length (all_bytes comps ss)) (all_bytes comps ss) (spelling comps end ++ tail) h refl) in
    let last : ends_header (segment_at comps (drop place b)) ≡ true = ap ends_header there.value ∙ ends in
    ap (λ (x : Header). segment_fault kind comps b x.segments x.end) read
    ∙ fault_none kind comps b ss place (early_clear kind comps b place there.rules (ap (is_packed_twice kind) there.value ∙ end_alone kind end ends) (ap (stands_in kind) there.value ∙ stands)) (ends_once ss (segment_at comps (drop place b)) last)
