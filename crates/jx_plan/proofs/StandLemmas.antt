-- What is written of a header is a header, and comments and packet lengths may follow it.
use Rattle.std.proofs.Common.{◌≡◌, ◌<◌, ◌+◌, ◌-◌, ◌==◌, ◌&&◌, ℕ, Bool, false, nat_lt, min, cond, arith, List, [], ◌∷◌, ◌++◌, length, refl, sym, ap, subst, Option, None, Some, inl, inr, ◌∙◌}
use Rattle.std.specs.Prelude.{IfSome}
use Rattle.std.specs.List.{All, list_any}
use Rattle.std.proofs.lemmas.Bool.{cases_Bool, or_parts}
use Rattle.std.proofs.lemmas.Bool.Decides.{nat_tests}
use Rattle.std.proofs.lemmas.List.Elements.{All-head, All-tail}
use Rattle.std.proofs.lemmas.List.FromFn.{get_or-map-range_with_len, length-map-range_with_len}
use Rattle.jx_base.specs.OrderNumbers.{IsOrderNumber}
use Rattle.jx_base.specs.declared.style.Style.{Style}
use Rattle.jx_marker.specs.declared.Segment.{Segment}
use Rattle.jx_marker.specs.declared.Segment.TheVariants as segment
use Rattle.jx_marker.specs.declared.Shape.{Shape}
use Rattle.jx_marker.specs.Ranges.{InRange, AreBytes, ShapeInRange}
use Rattle.jx_codestream.specs.declared.headers.HeaderKind.{HeaderKind}
use Rattle.jx_codestream.specs.declared.headers.HeaderKind.TheVariants.{Main, First, Later, PackedFirst, PackedLater}
use Rattle.jx_codestream.specs.Headers.{slot_of, has_slot, is_second, stands_in, ends_header, is_beside_ppm, is_ppt}
use Rattle.jx_codestream.specs.Spells.{IsSegment, AreSegments}
use Rattle.jx_plan.specs.Headers.{HeaderOptions, MayBeInHeaders, item_at, bytes_for, order_written, precincts_written, shape_written, style_written, written, is_written, all_written}
use Rattle.jx_plan.specs.Fits.{shape_has_zero, has_zero}
use Rattle.jx_plan.specs.Asides.{IsAside}
use Rattle.jx_plan.proofs.EntryLemmas.{kept_poc}
use Rattle.jx_plan.proofs.WrittenLemmas.{slot_kept}

-- each kind that is among the first is among the second
abbrev pub Fewer : List Segment → List Segment → Type 0
Fewer xs ys = (slot : ℕ) → has_slot slot ys ≡ false → has_slot slot xs ≡ false

pub has_before : (slot : ℕ) (xs : List Segment) (s : Segment) → has_slot slot (xs ++ s ∷ []) ≡ false → (has_slot slot xs ≡ false) × ((slot_of s == slot) ≡ false)
has_before slot [] s h = (refl, (or_parts (slot_of s == slot) (has_slot slot []) h).0)
has_before slot (x ∷ xs) s h =
    let e = or_parts (slot_of x == slot) (has_slot slot (xs ++ s ∷ [])) h in
    let r = has_before slot xs s e.1 in
    (rw e.0 r.0, r.1)

pub has_neither : (slot : ℕ) (xs : List Segment) (s : Segment) → has_slot slot xs ≡ false → (slot_of s == slot) ≡ false → has_slot slot (xs ++ s ∷ []) ≡ false
has_neither slot [] s h k = rw k refl
has_neither slot (x ∷ xs) s h k =
    let e = or_parts (slot_of x == slot) (has_slot slot xs) h in
    rw e.0 (has_neither slot xs s e.1 k)

fewer_both : (a : HeaderOptions) (xs ys : List Segment) (s : Segment) → Fewer xs ys → Fewer (xs ++ written a s ∷ []) (ys ++ s ∷ [])
fewer_both a xs ys s f slot h =
    let e = has_before slot ys s h in
    has_neither slot xs (written a s) (f slot e.0) (rw (slot_kept a s) e.1)

fewer_past : (xs ys : List Segment) (s : Segment) → Fewer xs ys → Fewer xs (ys ++ s ∷ [])
fewer_past xs ys s f slot h = f slot (has_before slot ys s h).0

once_kept : (a : HeaderOptions) (xs ys : List Segment) (s : Segment) → Fewer xs ys → is_second ys s ≡ false → is_second xs (written a s) ≡ false
once_kept a xs ys s f h = elim (cases_Bool (nat_lt 0 (slot_of s))) [
  | inl t ↦ rw (slot_kept a s, t) (f (slot_of s) (rw t at h))
  | inr n ↦ rw (slot_kept a s, n) refl
]

-- bytes of precincts that are asked

each_byte : (item : ℕ) (items : List ℕ) (levels : ℕ) → AreBytes (item ∷ items) → AreBytes (bytes_for (item ∷ items) levels)
each_byte item items levels h i d lt =
    let n : ℕ = levels + 1 in
    let inside : i < n = omega (arith, lt, length-map-range_with_len (item_at (item ∷ items)) 0 n) in
    let within : min i (length (item ∷ items) - 1) < length (item ∷ items) = grind (arith, nat_tests) in
    let P : ℕ → Type 0 = λ byte. byte < 256 in
    subst P (sym (get_or-map-range_with_len (item_at (item ∷ items)) 0 n i i d inside (omega arith))) (h (min i (length (item ∷ items) - 1)) 0 within)

bytes_fit : (items : List ℕ) (levels : ℕ) → AreBytes items → AreBytes (bytes_for items levels)
bytes_fit [] levels h = h
bytes_fit (item ∷ items) levels h = each_byte item items levels h

counted : (n levels : ℕ) → n ≡ levels + 1 → n ≡ (cond (n == 0) 0 (1 + levels))
counted n levels e = grind (arith, nat_tests)

bytes_count : (items : List ℕ) (levels : ℕ) → length (bytes_for items levels) ≡ (cond (length (bytes_for items levels) == 0) 0 (1 + levels))
bytes_count [] levels = refl
bytes_count (item ∷ items) levels =
    counted (length (bytes_for (item ∷ items) levels)) levels (length-map-range_with_len (item_at (item ∷ items)) 0 (levels + 1))

pub style_kept : (st : Option Style) (bits most : ℕ) → IfSome st (λ (style : Style). style.bits < most) → bits < most → (style_written st (record { bits = bits })).bits < most
style_kept None bits most h le = le
style_kept (Some new) bits most h le = h

-- the precincts of a shape, at its levels
record AreFit (levels : ℕ) (bytes : List ℕ) : Type 0 where
  count : length bytes ≡ (cond (length bytes == 0) 0 (1 + levels))
  each : AreBytes bytes

precincts_fit : (ps : Option (List ℕ)) (shape : Shape) → IfSome ps AreBytes → ShapeInRange shape → AreFit shape.levels (precincts_written ps shape)
precincts_fit None shape bytes r = record { count = r.count; each = r.precincts }
precincts_fit (Some items) shape bytes r = record { count = bytes_count items shape.levels; each = bytes_fit items shape.levels bytes }

shape_kept : (ps : Option (List ℕ)) (st : Option Style) (shape : Shape) → IfSome ps AreBytes → IfSome st (λ (style : Style). style.bits < 64) → shape_has_zero ps shape ≡ false → ShapeInRange shape
    → ShapeInRange (shape_written ps st shape)
shape_kept ps st shape bytes few h r =
    let fit : AreFit shape.levels (precincts_written ps shape) = precincts_fit ps shape bytes r in
    record {
      levels = r.levels;
      least_xcb = r.least_xcb;
      least_ycb = r.least_ycb;
      xcb = r.xcb;
      ycb = r.ycb;
      area = r.area;
      style = style_kept st shape.style 64 few r.style;
      wavelet = r.wavelet;
      count = fit.count;
      precincts = fit.each;
      above = h;
    }

pub order_kept : (o : Option ℕ) (order : ℕ) → IfSome o IsOrderNumber → IsOrderNumber order → IsOrderNumber (order_written o order)
order_kept None order h le = le
order_kept (Some new) order h le = h

range_kept : (a : HeaderOptions) (comps : ℕ) (s : Segment) → MayBeInHeaders a → has_zero a.wanted.precincts s ≡ false → InRange comps s → InRange comps (written a s)
range_kept a comps (segment.Cod cod) may h r = record {
  order = order_kept a.wanted.order cod.order may.order r.order;
  some = may.some;
  layers = may.few;
  transform = r.transform;
  shape = shape_kept a.wanted.precincts a.wanted.style cod.shape may.bytes may.style h r.shape;
}
range_kept a comps (segment.Coc comp shape) may h r = record { index = r.index; word = r.word; fits = shape_kept a.wanted.precincts a.wanted.style shape may.bytes may.style h r.fits }
range_kept a comps (segment.Poc entries) may h r = kept_poc comps entries r
range_kept a comps _ may h r = r

stands_kept : (kind : HeaderKind) (a : HeaderOptions) (s : Segment) → stands_in kind (written a s) ≡ stands_in kind s
stands_kept Main a (segment.Cod cod) = refl
stands_kept First a (segment.Cod cod) = refl
stands_kept Later a (segment.Cod cod) = refl
stands_kept PackedFirst a (segment.Cod cod) = refl
stands_kept PackedLater a (segment.Cod cod) = refl
stands_kept Main a (segment.Coc comp shape) = refl
stands_kept Main a (segment.Poc entries) = refl
stands_kept First a (segment.Coc comp shape) = refl
stands_kept First a (segment.Poc entries) = refl
stands_kept Later a (segment.Coc comp shape) = refl
stands_kept Later a (segment.Poc entries) = refl
stands_kept PackedFirst a (segment.Coc comp shape) = refl
stands_kept PackedFirst a (segment.Poc entries) = refl
stands_kept PackedLater a (segment.Coc comp shape) = refl
stands_kept PackedLater a (segment.Poc entries) = refl
stands_kept kind a _ = refl

ppt_kept : (a : HeaderOptions) (s : Segment) → is_ppt (written a s) ≡ is_ppt s
ppt_kept a (segment.Cod cod) = refl
ppt_kept a (segment.Coc comp shape) = refl
ppt_kept a (segment.Poc entries) = refl
ppt_kept a _ = refl

inside_kept : (a : HeaderOptions) (s : Segment) → ends_header (written a s) ≡ ends_header s
inside_kept a (segment.Cod cod) = refl
inside_kept a (segment.Coc comp shape) = refl
inside_kept a (segment.Poc entries) = refl
inside_kept a _ = refl

segment_written : (a : HeaderOptions) (kind : HeaderKind) (comps : ℕ) (xs ys : List Segment) (s : Segment) → MayBeInHeaders a → has_zero a.wanted.precincts s ≡ false → Fewer xs ys
    → IsSegment kind comps ys s → IsSegment kind comps xs (written a s)
segment_written a kind comps xs ys s may h f is = record {
  range = range_kept a comps s may h is.range;
  stands = stands_kept kind a s ∙ is.stands;
  once_packed = ap (λ (ppt : Bool). is_beside_ppm kind && ppt) (ppt_kept a s) ∙ is.once_packed;
  inside = inside_kept a s ∙ is.inside;
  once = once_kept a xs ys s f is.once;
}

pub segments_written : (a : HeaderOptions) (kind : HeaderKind) (comps : ℕ) (xs ys ss : List Segment) → MayBeInHeaders a → list_any (has_zero a.wanted.precincts) ss ≡ false → Fewer xs ys
    → AreSegments kind comps ys ss → AreSegments kind comps xs (all_written a ss)
segments_written a kind comps xs ys [] may h f are = tt
segments_written a kind comps xs ys (s ∷ ss) may h f are =
    let clear = or_parts (has_zero a.wanted.precincts s) (list_any (has_zero a.wanted.precincts) ss) h in
    elim (cases_Bool (is_written a.wanted.changes s)) [
      | inl t ↦ rw t (
        segment_written a kind comps xs ys s may clear.0 f are.0,
        segments_written a kind comps (xs ++ written a s ∷ []) (ys ++ s ∷ []) ss may clear.1 (fewer_both a xs ys s f) are.1,
      )
      | inr n ↦ rw n (segments_written a kind comps xs (ys ++ s ∷ []) ss may clear.1 (fewer_past xs ys s f) are.1)
    ]

-- comments and packet lengths

aside_first : (comps : ℕ) (before : List Segment) (s : Segment) → IsAside comps s → IsSegment First comps before s
aside_first comps before (segment.Com bytes) h = record { range = h.range; stands = refl; once_packed = refl; inside = refl; once = refl }
aside_first comps before (segment.Plt bytes) h = record { range = h.range; stands = refl; once_packed = refl; inside = refl; once = refl }
aside_first comps before _ h = absurd (let e = h.is in cc)

aside_later : (comps : ℕ) (before : List Segment) (s : Segment) → IsAside comps s → IsSegment Later comps before s
aside_later comps before (segment.Com bytes) h = record { range = h.range; stands = refl; once_packed = refl; inside = refl; once = refl }
aside_later comps before (segment.Plt bytes) h = record { range = h.range; stands = refl; once_packed = refl; inside = refl; once = refl }
aside_later comps before _ h = absurd (let e = h.is in cc)

pub asides_later : (comps : ℕ) (before more : List Segment) → All (IsAside comps) more → AreSegments Later comps before more
asides_later comps before [] h = tt
asides_later comps before (s ∷ ss) h =
    (aside_later comps before s (All-head (IsAside comps) s ss h), asides_later comps (before ++ s ∷ []) ss (All-tail (IsAside comps) s ss h))

asides_first : (comps : ℕ) (before more : List Segment) → All (IsAside comps) more → AreSegments First comps before more
asides_first comps before [] h = tt
asides_first comps before (s ∷ ss) h =
    (aside_first comps before s (All-head (IsAside comps) s ss h), asides_first comps (before ++ s ∷ []) ss (All-tail (IsAside comps) s ss h))

pub segments_more : (comps : ℕ) (before own more : List Segment) → All (IsAside comps) more → AreSegments First comps before own → AreSegments First comps before (own ++ more)
segments_more comps before [] more h are = asides_first comps before more h
segments_more comps before (s ∷ ss) more h are = (are.0, segments_more comps (before ++ s ∷ []) ss more h are.1)
