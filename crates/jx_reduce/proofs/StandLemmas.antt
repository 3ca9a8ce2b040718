-- The headers that are left stand in a file: none of the rules 1 to 19 is violated, and none of the limits 3 and 4 is passed.
use Rattle.std.proofs.Common.{◌≡◌, ◌∙◌, ℕ, suc, ◌+◌, ◌-◌, ◌*◌, ◌/◌, ◌%◌, ◌^◌, ◌==◌, ◌≤◌, ◌<◌, ◌&&◌, ◌||◌, Bool, true, false, cond, nat_lt, List, [], ◌∷◌, ◌++◌, map, take, drop, length, min, get_or, slice_index, refl, sym, ap, subst, arith, Option, Some, None, inl, inr}
use Rattle.std.specs.List.{All, find, flat_map, list_all, list_any, range_with_len}
use Rattle.std.specs.Option.{option_map}
use Rattle.std.proofs.Math.Nat.{one-le-mul}
use Rattle.std.proofs.lemmas.Bool.{cases_eq, or_parts}
use Rattle.std.proofs.lemmas.Bool.Decides.{nat_tests}
use Rattle.std.proofs.lemmas.List.{length-map, length-take, map-append}
use Rattle.std.proofs.lemmas.List.Folds.{list_any_none}
use Rattle.std.proofs.lemmas.List.Elements.{All-append, All-head, All-map, All-nil, All-tail, All-take, All-weaker}
use Rattle.std.proofs.lemmas.List.FromFn.{get_or-map-range_with_len, length-map-range_with_len}
use Rattle.std.proofs.lemmas.Nat.{pow_pos}
use Rattle.jx_base.proofs.Lists.{All-flat, find_none, none_passes}
use Rattle.jx_marker.specs.declared.CompSize.{CompSize}
use Rattle.jx_marker.specs.declared.Siz.{Siz}
use Rattle.jx_marker.specs.declared.Segment.{Segment}
use Rattle.jx_marker.specs.declared.Segment.TheVariants as segment
use Rattle.jx_marker.specs.declared.Shape.{Shape}
use Rattle.jx_marker.specs.declared.Quant.{Quant}
use Rattle.jx_marker.specs.Rules.{comp_size_fits, has_zero_exponent}
use Rattle.jx_marker.specs.Ranges.{CompSizeInRange, InRange, ShapeInRange, SizInRange}
use Rattle.jx_codestream.specs.declared.headers.HeaderKind.{HeaderKind}
use Rattle.jx_codestream.specs.declared.headers.HeaderKind.TheVariants.{Main, First, Later, PackedFirst, PackedLater}
use Rattle.jx_codestream.specs.declared.Tile.{Tile}
use Rattle.jx_codestream.specs.declared.Stream.{Stream}
use Rattle.jx_codestream.specs.Headers.{ends_header, is_beside_ppm, is_ppt, is_second, slot_of, stands_in}
use Rattle.jx_codestream.specs.First.{lacks_default, tiles_fault}
use Rattle.jx_codestream.specs.Params.{band_count, band_planes, exponent_of, has_too_few, limit_4_of, not_one, planes_of, quant_of, shape_of, shift_of, tile_has_too_few, tile_planes}
use Rattle.jx_codestream.specs.Spells.{AreSegments, IsSegment}
use Rattle.jx_codestream.proofs.PlaneLemmas.{all_planes}
use Rattle.jx_codestream.proofs.SegmentLemmas.{defaults_there}
use Rattle.jx_plan.specs.Standing.{HeadersStand, IsHeaded}
use Rattle.jx_reduce.specs.Reduction.{segment_left, shape_left, siz_left, size_left, stream_left, tile_left}
use Rattle.jx_reduce.specs.Unreducible.{passes_byte}
use Rattle.jx_reduce.proofs.SpanLemmas.{zero_times}
use Rattle.jx_reduce.proofs.HeaderLemmas.{IsClear, has_slot_left, quant_of_left, shape_of_left, shift_of_left, slot_left}

-- ---- SIZ
some_factor : (x d : ℕ) → nat_lt 0 (x * 2 ^ d) ≡ nat_lt 0 x
some_factor x d = elim (cases_eq x 0) [
  | inl none ↦ rw none (ap (λ (n : ℕ). nat_lt 0 n) (zero_times (2 ^ d)))
  | inr some ↦
      let product : 1 ≤ x * 2 ^ d = one-le-mul (omega arith) (pow_pos d) in
      grind (arith, nat_tests)
]

fits_left : (d : ℕ) (size : CompSize) → comp_size_fits (size_left d size) ≡ comp_size_fits size
fits_left d size = rw (some_factor size.dx d, some_factor size.dy d) refl

all_fit : (d : ℕ) (sizes : List CompSize) → list_all comp_size_fits (map (size_left d) sizes) ≡ list_all comp_size_fits sizes
all_fit d [] = refl
all_fit d (size ∷ sizes) = rw (fits_left d size, all_fit d sizes) refl

in_byte : (x y : ℕ) → (nat_lt 255 x || nat_lt 255 y) ≡ false → (x < 256) × (y < 256)
in_byte x y h = let e = or_parts (nat_lt 255 x) (nat_lt 255 y) h in (grind (arith, nat_tests), grind (arith, nat_tests))

size_stands : (d : ℕ) (size : CompSize) → passes_byte d size ≡ false → CompSizeInRange size → CompSizeInRange (size_left d size)
size_stands d size clear r = let e = in_byte (size.dx * 2 ^ d) (size.dy * 2 ^ d) clear in record { ssiz = r.ssiz; dx = e.0; dy = e.1 }

sizes_stand : (d : ℕ) (sizes : List CompSize) → All (λ (size : CompSize). passes_byte d size ≡ false) sizes → All CompSizeInRange sizes → All CompSizeInRange (map (size_left d) sizes)
sizes_stand d sizes clear r = All-map CompSizeInRange (size_left d) sizes (λ i e lt. size_stands d (get_or sizes i e) (clear i e lt) (r i e lt))

siz_stands : (d : ℕ) (siz : Siz) → All (λ (size : CompSize). passes_byte d size ≡ false) siz.comps → SizInRange siz → SizInRange (siz_left d siz)
siz_stands d siz clear r = record {
  rsiz = r.rsiz;
  x1 = r.x1;
  y1 = r.y1;
  x0 = r.x0;
  y0 = r.y0;
  tw = r.tw;
  th = r.th;
  tx = r.tx;
  ty = r.ty;
  fits = rw (length-map siz.comps (size_left d), all_fit d siz.comps) r.fits;
  each = sizes_stand d siz.comps clear r.each;
}

few_tiles : (d : ℕ) (siz : Siz) → tiles_fault siz ≡ None → tiles_fault (siz_left d siz) ≡ None
unfolding tiles_fault
few_tiles d siz h = h

-- ---- shapes
counted : (n levels d : ℕ) → n ≡ (cond (n == 0) 0 (1 + levels)) → min (levels - d + 1) n ≡ (cond (min (levels - d + 1) n == 0) 0 (1 + (levels - d)))
counted n levels d h = grind (arith, nat_tests)

any_take : (p : ℕ → Bool) (n : ℕ) (xs : List ℕ) → list_any p xs ≡ false → list_any p (take n xs) ≡ false
any_take p n xs h = list_any_none p (take n xs) (All-take (λ (x : ℕ). p x ≡ false) n xs (none_passes p xs h))

behind_first : (p : ℕ → Bool) (n : ℕ) (xs : List ℕ) → list_any p (drop 1 xs) ≡ false → list_any p (drop 1 (take (suc n) xs)) ≡ false
behind_first p n [] h = refl
behind_first p n (x ∷ xs) h = any_take p n xs h

shape_stands : (d : ℕ) (shape : Shape) → ShapeInRange shape → ShapeInRange (shape_left d shape)
shape_stands d shape r =
    let n : ℕ = shape.levels - d in
    let next : n + 1 ≡ suc n = omega arith in
    let long : length (take (n + 1) shape.precincts) ≡ min (n + 1) (length shape.precincts) = length-take (n + 1) shape.precincts in
    record {
      levels = omega (arith, r.levels);
      least_xcb = r.least_xcb;
      least_ycb = r.least_ycb;
      xcb = r.xcb;
      ycb = r.ycb;
      area = r.area;
      style = r.style;
      wavelet = r.wavelet;
      count = rw long (counted (length shape.precincts) shape.levels d r.count);
      precincts = All-take (λ (byte : ℕ). byte < 256) (n + 1) shape.precincts r.precincts;
      above = subst (λ (m : ℕ). list_any has_zero_exponent (drop 1 (take m shape.precincts)) ≡ false) (sym next) (behind_first has_zero_exponent n shape.precincts r.above);
    }

-- ---- segments
range_left : (d comps : ℕ) (s : Segment) → InRange comps s → InRange comps (segment_left d s)
range_left d comps (segment.Cod cod) r = record { order = r.order; some = r.some; layers = r.layers; transform = r.transform; shape = shape_stands d cod.shape r.shape }
range_left d comps (segment.Coc comp shape) r = record { index = r.index; word = r.word; fits = shape_stands d shape r.fits }
range_left d comps _ r = r

stands_left : (kind : HeaderKind) (d : ℕ) (s : Segment) → stands_in kind (segment_left d s) ≡ stands_in kind s
stands_left Main d (segment.Cod cod) = refl
stands_left First d (segment.Cod cod) = refl
stands_left Later d (segment.Cod cod) = refl
stands_left PackedFirst d (segment.Cod cod) = refl
stands_left PackedLater d (segment.Cod cod) = refl
stands_left Main d (segment.Coc comp shape) = refl
stands_left First d (segment.Coc comp shape) = refl
stands_left Later d (segment.Coc comp shape) = refl
stands_left PackedFirst d (segment.Coc comp shape) = refl
stands_left PackedLater d (segment.Coc comp shape) = refl
stands_left kind d _ = refl

ppt_left : (d : ℕ) (s : Segment) → is_ppt (segment_left d s) ≡ is_ppt s
ppt_left d (segment.Cod cod) = refl
ppt_left d (segment.Coc comp shape) = refl
ppt_left d _ = refl

inside_left : (d : ℕ) (s : Segment) → ends_header (segment_left d s) ≡ ends_header s
inside_left d (segment.Cod cod) = refl
inside_left d (segment.Coc comp shape) = refl
inside_left d _ = refl

once_left : (d : ℕ) (before : List Segment) (s : Segment) → is_second (map (segment_left d) before) (segment_left d s) ≡ is_second before s
once_left d before s = rw (slot_left d s, has_slot_left d (slot_of s) before) refl

segment_stands : (kind : HeaderKind) (d comps : ℕ) (before : List Segment) (s : Segment) → IsSegment kind comps before s → IsSegment kind comps (map (segment_left d) before) (segment_left d s)
segment_stands kind d comps before s is = record {
  range = range_left d comps s is.range;
  stands = stands_left kind d s ∙ is.stands;
  once_packed = ap (λ (ppt : Bool). is_beside_ppm kind && ppt) (ppt_left d s) ∙ is.once_packed;
  inside = inside_left d s ∙ is.inside;
  once = once_left d before s ∙ is.once;
}

segments_stand : (kind : HeaderKind) (d comps : ℕ) (before ss : List Segment) → AreSegments kind comps before ss → AreSegments kind comps (map (segment_left d) before) (map (segment_left d) ss)
segments_stand kind d comps before [] are = tt
segments_stand kind d comps before (s ∷ ss) are =
    let next : AreSegments kind comps (map (segment_left d) (before ++ s ∷ [])) (map (segment_left d) ss) = segments_stand kind d comps (before ++ s ∷ []) ss are.1 in
    (segment_stands kind d comps before s are.0, subst (λ (xs : List Segment). AreSegments kind comps xs (map (segment_left d) ss)) (map-append (segment_left d) before (s ∷ [])) next)

tile_stands : (d comps : ℕ) (t : Tile) → IsHeaded comps t → IsHeaded comps (tile_left d t)
tile_stands d comps t h = record { header = segments_stand First d comps [] t.header h.header; notes = h.notes; progressions = h.progressions }

both_there : (d : ℕ) (main : List Segment) → lacks_default main ≡ false → lacks_default (map (segment_left d) main) ≡ false
both_there d main h =
    let both = defaults_there main h in
    rw (has_slot_left d 1 main, has_slot_left d 2 main, both.0, both.1) refl

-- ---- rule 9
fewer_bands : (n levels d : ℕ) → nat_lt n (3 * levels + 1) ≡ false → nat_lt n (3 * (levels - d) + 1) ≡ false
fewer_bands n levels d h = grind (arith, nat_tests)

and_less : (a b c : Bool) → (b ≡ false → c ≡ false) → (a && b) ≡ false → (a && c) ≡ false
and_less false b c f h = refl
and_less true b c f h = f h

few_left : (d : ℕ) (q : Option Quant) (o : Option Shape) → has_too_few q o ≡ false → has_too_few q (option_map (shape_left d) o) ≡ false
few_left d None o h = refl
few_left d (Some quant) None h = refl
few_left d (Some quant) (Some shape) h = and_less (not_one quant) (nat_lt (length quant.entries) (band_count shape.levels)) (nat_lt (length quant.entries) (band_count (shape.levels - d))) (fewer_bands (length quant.entries) shape.levels d) h

any_less : (p q : ℕ → Bool) (xs : List ℕ) → ((x : ℕ) → p x ≡ false → q x ≡ false) → list_any p xs ≡ false → list_any q xs ≡ false
any_less p q xs f h = list_any_none q xs (All-weaker (λ (x : ℕ). p x ≡ false) (λ (x : ℕ). q x ≡ false) f xs (none_passes p xs h))

tile_few : (d comps : ℕ) (main : List Segment) (t : Tile) → tile_has_too_few main comps t ≡ false → tile_has_too_few (map (segment_left d) main) comps (tile_left d t) ≡ false
unfolding tile_has_too_few
tile_few d comps main t h =
    any_less (λ (comp : ℕ). has_too_few (quant_of t.header main comp) (shape_of t.header main comp))
    (λ (comp : ℕ). has_too_few (quant_of (map (segment_left d) t.header) (map (segment_left d) main) comp) (shape_of (map (segment_left d) t.header) (map (segment_left d) main) comp)) (range_with_len 0 comps)
    (λ comp none. rw (quant_of_left d t.header main comp, shape_of_left d t.header main comp) (few_left d (quant_of t.header main comp) (shape_of t.header main comp) none)) h

pub none_found : {X : Type 0} (p : X → Bool) (xs : List X) → All (λ (x : X). p x ≡ false) xs → find p xs ≡ None
none_found p [] h = refl
none_found {X} p (x ∷ xs) h = rw (All-head (λ (y : X). p y ≡ false) x xs h) (none_found p xs (All-tail (λ (y : X). p y ≡ false) x xs h))

entries_stand : (d comps : ℕ) (main : List Segment) (tiles : List Tile) → find (tile_has_too_few main comps) tiles ≡ None → find (tile_has_too_few (map (segment_left d) main) comps) (map (tile_left d) tiles) ≡ None
entries_stand d comps main tiles h =
    let all = find_none (tile_has_too_few main comps) tiles h in
    none_found (tile_has_too_few (map (segment_left d) main) comps) (map (tile_left d) tiles)
    (All-map (λ (t : Tile). tile_has_too_few (map (segment_left d) main) comps t ≡ false) (tile_left d) tiles (λ i e lt. tile_few d comps main (get_or tiles i e) (all i e lt)))

-- ---- limit 4
-- the exponent of a band that is left, also where it is derived
derived : (e l m q : ℕ) → m ≤ l → q ≤ m → e + (m - q) - m ≡ e + (l - q) - l
derived e l m q le inside = omega arith

pub exponent_left : (quant : Quant) (levels d number : ℕ) → (number - 1) / 3 ≤ levels - d → exponent_of quant (levels - d) number ≡ exponent_of quant levels number
exponent_left quant levels d number inside =
    ap (λ (x : ℕ). cond (quant.sqcd % 32 == 0) (slice_index quant.entries number % 256 / 8) (cond (quant.sqcd % 32 == 1) x (slice_index quant.entries number / 2048)))
    (derived (slice_index quant.entries 0 / 2048) levels (levels - d) ((number - 1) / 3) (omega arith) inside)

pub planes_left : (quant : Quant) (levels d shift number : ℕ) → (number - 1) / 3 ≤ levels - d → planes_of quant (levels - d) shift number ≡ planes_of quant levels shift number
planes_left quant levels d shift number inside = ap (λ (x : ℕ). (quant.sqcd / 32 + x - 1) + shift) (exponent_left quant levels d number inside)

mapped_front : (P : ℕ → Type 0) (f g : ℕ → ℕ) (m n : ℕ) → m ≤ n → ((i : ℕ) → i < m → g i ≡ f i) → All P (map f (range_with_len 0 n)) → All P (map g (range_with_len 0 m))
mapped_front P f g m n le same all i e lt =
    let inside : i < m = omega (arith, lt, length-map-range_with_len g 0 m) in
    let here : P (get_or (map f (range_with_len 0 n)) i e) = all i e (omega (arith, length-map-range_with_len f 0 n)) in
    let there : P (f i) = subst P (get_or-map-range_with_len f 0 n i i e (omega arith) (omega arith)) here in
    subst P (sym (get_or-map-range_with_len g 0 m i i e inside (omega arith) ∙ same i inside)) there

bands_left : (P : ℕ → Type 0) (d : ℕ) (q : Option Quant) (o : Option Shape) (shift : ℕ) → All P (band_planes q o shift) → All P (band_planes q (option_map (shape_left d) o) shift)
bands_left P d None o shift all = all
bands_left P d (Some quant) None shift all = all
bands_left P d (Some quant) (Some shape) shift all =
    mapped_front P (planes_of quant shape.levels shift) (planes_of quant (shape.levels - d) shift) (band_count (shape.levels - d)) (band_count shape.levels) (omega arith)
    (λ i lt. planes_left quant shape.levels d shift i (omega arith)) all

flat_all : {X A : Type 0} (P : A → Type 0) (f : X → List A) (xs : List X) → All (λ (x : X). All P (f x)) xs → All P (flat_map f xs)
flat_all P f [] h = All-nil P
flat_all {X} P f (x ∷ xs) h =
    All-append P (f x) (flat_map f xs) (All-head (λ (y : X). All P (f y)) x xs h) (flat_all P f xs (All-tail (λ (y : X). All P (f y)) x xs h))

tile_planes_left : (P : ℕ → Type 0) (d comps : ℕ) (main : List Segment) (t : Tile) → All P (tile_planes main comps t) → All P (tile_planes (map (segment_left d) main) comps (tile_left d t))
unfolding tile_planes
tile_planes_left P d comps main t all =
    let f : ℕ → List ℕ = λ (comp : ℕ). band_planes (quant_of t.header main comp) (shape_of t.header main comp) (shift_of t.header main comp) in
    let own : List Segment = map (segment_left d) t.header in
    let front : List Segment = map (segment_left d) main in
    let g : ℕ → List ℕ = λ (comp : ℕ). band_planes (quant_of own front comp) (shape_of own front comp) (shift_of own front comp) in
    flat_all P g (range_with_len 0 comps)
    (All-weaker (λ (comp : ℕ). All P (f comp)) (λ (comp : ℕ). All P (g comp))
    (λ comp here. rw (quant_of_left d t.header main comp, shape_of_left d t.header main comp, shift_of_left d t.header main comp)
    (bands_left P d (quant_of t.header main comp) (shape_of t.header main comp) (shift_of t.header main comp) here)) (range_with_len 0 comps) (All-flat P f (range_with_len 0 comps) all))

planes_stand : (d comps : ℕ) (main : List Segment) (tiles : List Tile) → limit_4_of (find (nat_lt 74) (flat_map (tile_planes main comps) tiles)) ≡ None
    → limit_4_of (find (nat_lt 74) (flat_map (tile_planes (map (segment_left d) main) comps) (map (tile_left d) tiles))) ≡ None
planes_stand d comps main tiles h =
    let P : ℕ → Type 0 = λ n. nat_lt 74 n ≡ false in
    let each = All-flat P (tile_planes main comps) tiles (all_planes main comps tiles h) in
    let all : All P (flat_map (tile_planes (map (segment_left d) main) comps) (map (tile_left d) tiles)) =
    flat_all P (tile_planes (map (segment_left d) main) comps) (map (tile_left d) tiles)
    (All-map (λ (t : Tile). All P (tile_planes (map (segment_left d) main) comps t)) (tile_left d) tiles (λ i e lt. tile_planes_left P d comps main (get_or tiles i e) (each i e lt))) in
    ap limit_4_of (none_found (nat_lt 74) (flat_map (tile_planes (map (segment_left d) main) comps) (map (tile_left d) tiles)) all)

-- ---- all headers
by_length : (m n : ℕ) (P : ℕ → Type 0) → m ≡ n → P n → P m
by_length m n P e h = subst P (sym e) h

pub left_stands : (d : ℕ) (s : Stream) → IsClear d s → HeadersStand s → HeadersStand (stream_left d s)
unfolding stream_left
left_stands d s clear stand =
    let n : ℕ = length s.siz.comps in
    let front : List Segment = map (segment_left d) s.main in
    let tiles : List Tile = map (tile_left d) s.tiles in
    let same : length (map (size_left d) s.siz.comps) ≡ n = length-map s.siz.comps (size_left d) in
    record {
      siz = siz_stands d s.siz clear.sizes stand.siz;
      few = few_tiles d s.siz stand.few;
      main = by_length _ n (λ (m : ℕ). AreSegments Main m [] front) same (segments_stand Main d n [] s.main stand.main);
      defaults = both_there d s.main stand.defaults;
      count = length-map s.tiles (tile_left d) ∙ stand.count;
      each = by_length _ n (λ (m : ℕ). All (IsHeaded m) tiles) same (All-map (IsHeaded n) (tile_left d) s.tiles (λ i e lt. tile_stands d n (get_or s.tiles i e) (stand.each i e lt)));
      entries = by_length _ n (λ (m : ℕ). find (tile_has_too_few front m) tiles ≡ None) same (entries_stand d n s.main s.tiles stand.entries);
      planes = by_length _ n (λ (m : ℕ). limit_4_of (find (nat_lt 74) (flat_map (tile_planes front m) tiles)) ≡ None) same (planes_stand d n s.main s.tiles stand.planes);
    }
