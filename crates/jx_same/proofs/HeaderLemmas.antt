-- Two codestreams of which no value of the picture and its components differs, and one that is compared with itself.
use Rattle.std.proofs.Common.{◌≡◌, ◌∙◌, ◌==◌, ◌<◌, ℕ, zero, suc, List, [], ◌∷◌, map, length, get_or, ap, refl, sym, arith, true, false, ◌&&◌, Option, None, Some}
use Rattle.std.specs.List.{find, slice_get}
use Rattle.std.specs.Option.{option_map}
use Rattle.std.proofs.lemmas.Bool.{and_from, and_parts, eq-eqb, eqb-true, not-false}
use Rattle.jx_base.specs.declared.pieces.Block.{Block}
use Rattle.jx_base.specs.Joined.{joined}
use Rattle.jx_base.proofs.Lists.{all_at, find_none, same_gets}
use Rattle.jx_marker.specs.declared.CompSize.{CompSize}
use Rattle.jx_marker.specs.declared.Siz.{Siz}
use Rattle.jx_codestream.specs.declared.Stream.{Stream}
use Rattle.jx_codestream.specs.Shapes.{no_size, size_in}
use Rattle.jx_plan.specs.Meaning.{Meaning, meaning_of}
use Rattle.jx_same.specs.declared.answer.Field.{Field}
use Rattle.jx_same.specs.declared.answer.Field.TheVariants as field
use Rattle.jx_same.specs.declared.answer.Spot.{Spot}
use Rattle.jx_same.specs.Items.{agree, coef_at_spot, component_at, differs, picture_fields, picture_items, same_canvas, same_sampling, size_fields, size_items, spot_of_component, step_at}
use Rattle.jx_same.specs.Sides.{unlike_picture, unlike_size}
use Rattle.jx_same.proofs.BlockLemmas.{coef_same}
use Rattle.jx_same.proofs.FieldLemmas.{alike, picture_found, size_found}
use Rattle.jx_same.proofs.FindLemmas.{joined_each, none_left, none_right}

-- ---- a codestream and itself
same_number : (n : ℕ) → (n == n) ≡ true
same_number n = eq-eqb n n refl

both : (x y : ℕ) → (x == x && y == y) ≡ true
both x y = and_from (x == x) (y == y) (same_number x) (same_number y)

canvas_self : (z : Siz) → same_canvas z z ≡ true
canvas_self z =
    and_from ((z.x1 == z.x1 && z.y1 == z.y1) && (z.x0 == z.x0 && z.y0 == z.y0)) ((z.tw == z.tw && z.th == z.th) && (z.tx == z.tx && z.ty == z.ty))
    (and_from (z.x1 == z.x1 && z.y1 == z.y1) (z.x0 == z.x0 && z.y0 == z.y0) (both z.x1 z.y1) (both z.x0 z.y0))
    (and_from (z.tw == z.tw && z.th == z.th) (z.tx == z.tx && z.ty == z.ty) (both z.tw z.th) (both z.tx z.ty))

agree_self : (f : Field) (m : Meaning) (s : Spot) → agree f m m s ≡ true
agree_self field.Canvas m s = canvas_self m.siz
agree_self field.Components m s = same_number (length m.siz.comps)
agree_self field.Depth m s = same_number (size_in m.siz s.comp).ssiz
agree_self field.Sampling m s = both (size_in m.siz s.comp).dx (size_in m.siz s.comp).dy
agree_self field.Levels m s = same_number (component_at m s).levels
agree_self field.Wavelet m s = same_number (component_at m s).wavelet
agree_self field.Transform m s = same_number (component_at m s).transform
agree_self field.Quant m s = same_number (component_at m s).quant
agree_self field.Guard m s = same_number (component_at m s).guard
agree_self field.Shift m s = same_number (component_at m s).shift
agree_self field.Exponent m s = same_number (step_at m s).0
agree_self field.Mantissa m s = same_number (step_at m s).1
agree_self field.Coef m s = coef_same (coef_at_spot m s)

pub self_none : (m : Meaning) (items : List Spot) → find (differs m m) items ≡ None
self_none m [] = refl
self_none m (s ∷ items) = let e : agree s.field m m s ≡ true = agree_self s.field m s in rw e (self_none m items)

-- ---- no value of the picture differs
pub map_none : {X Y : Type 0} (f : X → Y) (o : Option X) → option_map f o ≡ None → o ≡ None
map_none f None e = refl
map_none f (Some x) e = absurd (cc)

get_some : {X : Type 0} (xs : List X) (i : ℕ) (d : X) → i < length xs → slice_get xs i ≡ Some (get_or xs i d)
get_some [] i d lt = absurd (omega arith)
get_some (x ∷ xs) zero d lt = refl
get_some (x ∷ xs) (suc i) d lt = get_some xs i d (omega arith)

size_by : ℕ → ℕ → ℕ → CompSize
size_by s x y = record { ssiz = s; dx = x; dy = y }

sizes_same : (s t x u y v : ℕ) → s ≡ t → x ≡ u → y ≡ v → size_by s x y ≡ size_by t u v
sizes_same s t x u y v e1 e2 e3 = rw (e1, e2, e3) refl

size_same : (a b : CompSize) → find (unlike_size a b) size_fields ≡ None → a ≡ b
unfolding size_by
size_same a b none =
    let all = find_none (unlike_size a b) size_fields none in
    let P : Field → Type 0 = λ f. unlike_size a b f ≡ false in
    let sampling = and_parts (a.dx == b.dx) (a.dy == b.dy) (not-false (same_sampling a b) (all_at P size_fields 1 field.Sampling all refl)) in
    sizes_same a.ssiz b.ssiz a.dx b.dx a.dy b.dy (alike a.ssiz b.ssiz (all_at P size_fields 0 field.Depth all refl)) (eqb-true a.dx b.dx sampling.0) (eqb-true a.dy b.dy sampling.1)

siz_by : ℕ → ℕ → ℕ → ℕ → ℕ → ℕ → ℕ → ℕ → List CompSize → Siz
siz_by x1 y1 x0 y0 tw th tx ty comps = record { rsiz = 0; x1 = x1; y1 = y1; x0 = x0; y0 = y0; tw = tw; th = th; tx = tx; ty = ty; comps = comps }

siz_same : (a b c d e f g h a' b' c' d' e' f' g' h' : ℕ) (xs ys : List CompSize) → a ≡ a' → b ≡ b' → c ≡ c' → d ≡ d' → e ≡ e' → f ≡ f' → g ≡ g' → h ≡ h' → xs ≡ ys
    → siz_by a b c d e f g h xs ≡ siz_by a' b' c' d' e' f' g' h' ys
siz_same a b c d e f g h a' b' c' d' e' f' g' h' xs ys e1 e2 e3 e4 e5 e6 e7 e8 e9 = rw (e1, e2, e3, e4, e5, e6, e7, e8, e9) refl

canvas_same : (a b : Siz) → same_canvas a b ≡ true → a.comps ≡ b.comps → ◌≡◌ {A = Siz} (record a { rsiz = 0 }) (record b { rsiz = 0 })
unfolding siz_by
canvas_same a b h comps =
    let all = and_parts ((a.x1 == b.x1 && a.y1 == b.y1) && (a.x0 == b.x0 && a.y0 == b.y0)) ((a.tw == b.tw && a.th == b.th) && (a.tx == b.tx && a.ty == b.ty)) h in
    let picture = and_parts (a.x1 == b.x1 && a.y1 == b.y1) (a.x0 == b.x0 && a.y0 == b.y0) all.0 in
    let tiles = and_parts (a.tw == b.tw && a.th == b.th) (a.tx == b.tx && a.ty == b.ty) all.1 in
    let ends = and_parts (a.x1 == b.x1) (a.y1 == b.y1) picture.0 in
    let begins = and_parts (a.x0 == b.x0) (a.y0 == b.y0) picture.1 in
    let sides = and_parts (a.tw == b.tw) (a.th == b.th) tiles.0 in
    let offsets = and_parts (a.tx == b.tx) (a.ty == b.ty) tiles.1 in
    siz_same a.x1 a.y1 a.x0 a.y0 a.tw a.th a.tx a.ty b.x1 b.y1 b.x0 b.y0 b.tw b.th b.tx b.ty a.comps b.comps
    (eqb-true a.x1 b.x1 ends.0) (eqb-true a.y1 b.y1 ends.1) (eqb-true a.x0 b.x0 begins.0) (eqb-true a.y0 b.y0 begins.1)
    (eqb-true a.tw b.tw sides.0) (eqb-true a.th b.th sides.1) (eqb-true a.tx b.tx offsets.0) (eqb-true a.ty b.ty offsets.1) comps

pub picture_same : (s t : Stream) (x y : List Block) → find (differs (meaning_of s x) (meaning_of t y)) (picture_items s.siz) ≡ None
    → ◌≡◌ {A = Siz} (record s.siz { rsiz = 0 }) (record t.siz { rsiz = 0 })
picture_same s t x y none =
    let p = differs (meaning_of s x) (meaning_of t y) in
    let first = none_left p (map (spot_of_component 0 0) picture_fields) (joined size_items 0 (length s.siz.comps)) none in
    let more = none_right p (map (spot_of_component 0 0) picture_fields) (joined size_items 0 (length s.siz.comps)) none in
    let all = find_none (unlike_picture s.siz t.siz) picture_fields (map_none (spot_of_component 0 0) (find (unlike_picture s.siz t.siz) picture_fields) (sym (picture_found s t x y) ∙ first)) in
    let P : Field → Type 0 = λ f. unlike_picture s.siz t.siz f ≡ false in
    let long : length s.siz.comps ≡ length t.siz.comps = alike (length s.siz.comps) (length t.siz.comps) (all_at P picture_fields 1 field.Components all refl) in
    let each : (i : ℕ) → i < length s.siz.comps → slice_get s.siz.comps i ≡ slice_get t.siz.comps i = λ i lt.
    (let one = map_none (spot_of_component 0 i) (find (unlike_size (size_in s.siz i) (size_in t.siz i)) size_fields)
    (sym (size_found s t x y i) ∙ joined_each p size_items i (length s.siz.comps) more lt) in
    get_some s.siz.comps i no_size lt ∙ ap (λ (z : CompSize). Some z) (size_same (size_in s.siz i) (size_in t.siz i) one) ∙ sym (get_some t.siz.comps i no_size (omega arith))) in
    canvas_same s.siz t.siz (not-false (same_canvas s.siz t.siz) (all_at P picture_fields 0 field.Canvas all refl)) (same_gets s.siz.comps t.siz.comps long each)

pub siz_one : (s t : Stream) (x y : List Block) → ◌≡◌ {A = Siz} (record s.siz { rsiz = 0 }) (record t.siz { rsiz = 0 }) → (meaning_of s x).siz ≡ (meaning_of t y).siz
unfolding meaning_of
siz_one s t x y e = e

pub siz_back : (s t : Stream) (x y : List Block) → (meaning_of s x).siz ≡ (meaning_of t y).siz → ◌≡◌ {A = Siz} (record s.siz { rsiz = 0 }) (record t.siz { rsiz = 0 })
unfolding meaning_of
siz_back s t x y e = e
