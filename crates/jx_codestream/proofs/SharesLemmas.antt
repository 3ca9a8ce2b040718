-- Packet headers that stand apart: what a share leaves as it was, and where the pieces lie.
use Rattle.std.proofs.Common.{◌≡◌, ◌∙◌, ◌≤◌, ◌+◌, ◌||◌, ◌==◌, ℕ, Bool, false, not, arith, List, [], ◌∷◌, ◌++◌, length, refl, sym, ap, suc, subst, drop, Option, Some, None, append-nil, append_assoc, length-append, length-drop}
use Rattle.std.specs.List.{All}
use Rattle.std.proofs.lemmas.Bool.{ne_eqb, or_parts, true≢false}
use Rattle.std.proofs.lemmas.List.Elements.{All-nil, All-cons, All-head, All-tail, All-append}
use Rattle.std.proofs.lemmas.Grind.{flat_map-append}
use Rattle.byteorder.specs.Endian.{big_bytes}
use Rattle.jx_marker.specs.Codes.{PPM, PPT}
use Rattle.jx_marker.specs.declared.Segment.{Segment}
use Rattle.jx_marker.specs.declared.Segment.TheVariants as segment
use Rattle.jx_marker.specs.Segments.{spelling, with_length}
use Rattle.jx_codestream.specs.declared.Body.{Body}
use Rattle.jx_codestream.specs.declared.packed.PackedSegment.{PackedSegment}
use Rattle.jx_codestream.specs.declared.parts.PlacedPart.{PlacedPart}
use Rattle.jx_codestream.specs.Headers.{has_packed, is_packed, is_ppt, without_ppt}
use Rattle.jx_codestream.specs.Spells.{all_bytes}
use Rattle.jx_codestream.specs.PackedHeaders.{PackedLieIn, after_share, both_heads, data_in_order, heads_of, packed_at, packed_from, share_of, shared_out, with_heads, with_shares}

-- what holds of tile-parts, whatever their packet headers, holds of them with their shares

shared_keep : (P : PlacedPart → Type 0) → ((p : PlacedPart) (pieces : List Body) → P p → P (with_heads p pieces)) → (b : List ℕ) (pieces : List Body) (parts : List PlacedPart) → All P parts
    → All P (shared_out b pieces parts)
shared_keep P keeps b pieces [] h = All-nil P
shared_keep P keeps b pieces (p ∷ ps) h =
    All-cons P (with_heads p (share_of b pieces)) (shared_out b (after_share b pieces) ps) (keeps p (share_of b pieces) (All-head P p ps h)) (shared_keep P keeps b (after_share b pieces) ps (All-tail P p ps h))

pub shares_keep : (P : PlacedPart → Type 0) → ((p : PlacedPart) (pieces : List Body) → P p → P (with_heads p pieces)) → (b : List ℕ) (packed : List PackedSegment) (parts : List PlacedPart) → All P parts
    → All P (with_shares b packed parts)
shares_keep P keeps b [] parts h = h
shares_keep P keeps b (q ∷ qs) parts h = shared_keep P keeps b (data_in_order (q ∷ qs)) parts h

-- whether a header has PPM or PPT

one_more : (at : ℕ) (s : Segment) (rest : List PackedSegment) (some : Bool) → some ≡ not (length rest == 0) → (is_packed s || some) ≡ not (length (packed_at at s ++ rest) == 0)
one_more at (segment.Ppm index bytes) rest some h = sym (ap not (ne_eqb (suc (length rest)) 0 (λ e. absurd (omega (arith, e)))))
one_more at (segment.Ppt index bytes) rest some h = sym (ap not (ne_eqb (suc (length rest)) 0 (λ e. absurd (omega (arith, e)))))
one_more at _ rest some h = h

pub packed_is : (comps at : ℕ) (segments : List Segment) → has_packed segments ≡ not (length (packed_from comps at segments) == 0)
packed_is comps at [] = refl
packed_is comps at (s ∷ ss) =
    one_more at s (packed_from comps (at + length (spelling comps s)) ss) (has_packed ss) (packed_is comps (at + length (spelling comps s)) ss)

-- a header without PPM and PPT is held as it is

not_ppt : (s : Segment) → is_packed s ≡ false → is_ppt s ≡ false
not_ppt (segment.Ppt index bytes) h = absurd (true≢false h)
not_ppt _ h = refl

pub unpacked_whole : (ss : List Segment) → has_packed ss ≡ false → without_ppt ss ≡ ss
unpacked_whole [] h = refl
unpacked_whole (s ∷ ss) h =
    let both = or_parts (is_packed s) (has_packed ss) h in
    rw (not_ppt s both.0) (ap (λ (x : List Segment). s ∷ x) (unpacked_whole ss both.1))

pub none_whole : (comps at : ℕ) (ss : List Segment) → packed_from comps at ss ≡ [] → without_ppt ss ≡ ss
none_whole comps at ss h = unpacked_whole ss (packed_is comps at ss ∙ ap (λ (packed : List PackedSegment). not (length packed == 0)) h)

-- one segment more

pub packed_on : (comps at : ℕ) (ss : List Segment) (s : Segment) → packed_from comps at (ss ++ s ∷ []) ≡ packed_from comps at ss ++ packed_at (at + length (all_bytes comps ss)) s
packed_on comps at [] s = append-nil (packed_at at s) ∙ ap (λ (n : ℕ). packed_at n s) (let e : at ≡ at + 0 = omega arith in e)
packed_on comps at (x ∷ ss) s =
    let next = at + length (spelling comps x) in
    let place : next + length (all_bytes comps ss) ≡ at + length (all_bytes comps (x ∷ ss)) = omega (arith, length-append (spelling comps x) (all_bytes comps ss)) in
    ap (λ (t : List PackedSegment). packed_at at x ++ t) (packed_on comps next ss s ∙ ap (λ (n : ℕ). packed_from comps next ss ++ packed_at n s) place)
    ∙ sym (append_assoc (packed_at at x) (packed_from comps next ss) (packed_at (at + length (all_bytes comps (x ∷ ss))) s))

two_long : (n : ℕ) → length (big_bytes 2 n) ≡ 2
two_long n = refl

packed_size : (code index : ℕ) (bytes : List ℕ) → length (with_length code (index ∷ bytes)) ≡ 5 + length bytes
packed_size code index bytes = omega (arith, length-append (big_bytes 2 (2 + length (index ∷ bytes))) (index ∷ bytes), two_long (2 + length (index ∷ bytes)))

abbrev Inside : List ℕ → PackedSegment → Type 0
Inside b p = p.place + 5 + p.length ≤ length b

lies_at : (b : List ℕ) (comps at next : ℕ) (s : Segment) → next ≡ at + length (spelling comps s) → next ≤ length b → PackedLieIn b (packed_at at s)
lies_at b comps at next (segment.Ppm index bytes) is within =
    All-cons (Inside b) (record { place = at; index = index; length = length bytes }) [] (omega (arith, packed_size PPM index bytes, is, within)) (All-nil (Inside b))
lies_at b comps at next (segment.Ppt index bytes) is within =
    All-cons (Inside b) (record { place = at; index = index; length = length bytes }) [] (omega (arith, packed_size PPT index bytes, is, within)) (All-nil (Inside b))
lies_at b comps at next _ is within = All-nil (Inside b)

pub size_on : (comps at : ℕ) (ss items : List Segment) (s : Segment) (place next : ℕ) → place ≡ at + length (all_bytes comps ss) → next ≡ place + length (spelling comps s) → items ≡ ss ++ s ∷ []
    → next ≡ at + length (all_bytes comps items)
size_on comps at ss items s place next is after all =
    let joined : all_bytes comps items ≡ all_bytes comps ss ++ all_bytes comps (s ∷ []) = ap (all_bytes comps) all ∙ flat_map-append (spelling comps) ss (s ∷ []) in
    omega (arith, is, after, ap (λ (x : List ℕ). length x) joined, length-append (all_bytes comps ss) (all_bytes comps (s ∷ [])), length-append (spelling comps s) [])

pub packed_more : (comps at : ℕ) (ss items : List Segment) (s : Segment) (place : ℕ) (packed next : List PackedSegment) → packed ≡ packed_from comps at ss → place ≡ at + length (all_bytes comps ss)
    → next ≡ packed ++ packed_at place s → items ≡ ss ++ s ∷ [] → next ≡ packed_from comps at items
packed_more comps at ss items s place packed next was is made all =
    made ∙ ap (λ (x : List PackedSegment). x ++ packed_at place s) was ∙ ap (λ (n : ℕ). packed_from comps at ss ++ packed_at n s) is ∙ sym (packed_on comps at ss s)
    ∙ ap (packed_from comps at) (sym all)

pub lie_more : (b : List ℕ) (comps place next : ℕ) (s : Segment) (packed more : List PackedSegment) → PackedLieIn b packed → next ≡ place + length (spelling comps s) → next ≤ length b
    → more ≡ packed ++ packed_at place s → PackedLieIn b more
lie_more b comps place next s packed more lie is within made =
    subst (PackedLieIn b) (sym made) (All-append (Inside b) packed (packed_at place s) lie (lies_at b comps place next s is within))

-- a segment takes the bytes of its spelling
pub next_is : (b : List ℕ) (comps at next : ℕ) (s : Segment) (rest : List ℕ) → at ≤ length b → next ≤ length b → drop at b ≡ spelling comps s ++ rest → rest ≡ drop next b → at ≤ next → next ≡ at + length (spelling comps s)
next_is b comps at next s rest inside within is left rises =
    omega (arith, length-drop at b, length-drop next b, ap (λ (x : List ℕ). length x) is, ap (λ (x : List ℕ). length x) left, length-append (spelling comps s) rest)

-- a tile-part more in a tile

both_none : (x : Option (List Body)) → both_heads x None ≡ x
both_none None = refl
both_none (Some pieces) = refl

both_assoc : (x y z : Option (List Body)) → both_heads (both_heads x y) z ≡ both_heads x (both_heads y z)
both_assoc None y z = refl
both_assoc (Some one) None z = refl
both_assoc (Some one) (Some two) None = refl
both_assoc (Some one) (Some two) (Some three) = ap (λ (x : List Body). Some x) (append_assoc one two three)

pub heads_on : (own : List PlacedPart) (p : PlacedPart) → heads_of (own ++ p ∷ []) ≡ both_heads (heads_of own) p.heads
heads_on [] p = both_none p.heads
heads_on (q ∷ own) p = ap (both_heads q.heads) (heads_on own p) ∙ sym (both_assoc q.heads (heads_of own) p.heads)
