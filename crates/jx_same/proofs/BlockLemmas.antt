-- The coefficients of a code-block of one codestream beside those of the other.
use Rattle.std.proofs.Common.{◌≡◌, ◌∙◌, ℕ, ◌+◌, ◌-◌, ◌<◌, ◌≤◌, ◌==◌, List, [], length, get_or, ap, sym, subst, refl, arith, Bool, true, false, not, ◌&&◌, if◌then◌else◌, Option, None, Some}
use Rattle.std.specs.List.{find, slice_get}
use Rattle.std.proofs.lemmas.Bool.{and_from, eq-eqb}
use Rattle.jx_base.specs.declared.names.Band.{Band}
use Rattle.jx_base.specs.declared.names.Rect.{Rect}
use Rattle.jx_base.specs.declared.pieces.Block.{Block}
use Rattle.jx_base.specs.Places.{InRect, column_at, row_at, size_of}
use Rattle.jx_base.specs.Sound.{IsSound}
use Rattle.jx_base.proofs.Lists.{some_none}
use Rattle.jx_base.proofs.Raster.{raster_in}
use Rattle.jx_geom.specs.declared.shape.Canvas.{Canvas}
use Rattle.jx_geom.specs.declared.shape.CompShape.{CompShape}
use Rattle.jx_geom.specs.Geometry.{HasResolution, band_in, no_shape, rect_of_tile, shape_of}
use Rattle.jx_geom.specs.Rects.{band_rect, tile_rect}
use Rattle.jx_marker.specs.declared.CompSize.{CompSize}
use Rattle.jx_marker.specs.declared.Siz.{Siz}
use Rattle.jx_tier1_specs.specs.declared.coef.Coef.{Coef}
use Rattle.jx_tier1_specs.specs.Cells.{Cells, coef_at}
use Rattle.jx_codeblock.specs.Written.{own_cells}
use Rattle.jx_codestream.specs.declared.Stream.{Stream}
use Rattle.jx_codestream.specs.First.{canvas_of}
use Rattle.jx_codestream.specs.Params.{params_of}
use Rattle.jx_codestream.specs.Shapes.{geometry, no_size, shape_in, size_in}
use Rattle.jx_codestream.proofs.RangeLemmas.{shapes_at, shapes_length}
use Rattle.jx_plan.specs.Meaning.{Component, Place, component_of, meaning_of, sample_at, sample_in}
use Rattle.jx_same.specs.declared.answer.Field.TheVariants as field
use Rattle.jx_same.specs.declared.answer.Spot.{Spot}
use Rattle.jx_same.specs.declared.side.BandName.{BandName}
use Rattle.jx_same.specs.Items.{coef_item, coef_items, coef_or, differs, rect_in, same_coef, same_sign, spot_of_coef}
use Rattle.jx_same.specs.Sides.{AreAligned, AreAlike, AreBeside, AreOnShelf, Covers, HasBandOf, SideValue, agrees_at, geometry_at, meaning_at, place_in}
use Rattle.jx_same.proofs.FindLemmas.{joined_all, one_none}
use Rattle.jx_same.proofs.PlaceLemmas.{in_band, same_band}

-- ---- two sides at one tile, and a component that both transform in one way
beside_siz : (a b : SideValue) → AreBeside a b → ◌≡◌ {A = Siz} (record a.stream.siz { rsiz = 0 }) (record b.stream.siz { rsiz = 0 })
unfolding meaning_of
beside_siz a b h = h.siz

pub same_canvas : (a b : SideValue) → AreBeside a b → canvas_of a.stream.siz ≡ canvas_of b.stream.siz
same_canvas a b h = ap canvas_of (beside_siz a b h)

pub same_comps : (a b : SideValue) → AreBeside a b → a.stream.siz.comps ≡ b.stream.siz.comps
same_comps a b h = ap (λ (z : Siz). z.comps) (beside_siz a b h)

aligned_coding : (a b : SideValue) (c : ℕ) → AreAligned a b c → component_of (params_of a.stream a.tile c) ≡ component_of (params_of b.stream b.tile c)
unfolding meaning_of
aligned_coding a b c h = h.component

-- the shape of a component that is there
pub shape_is : (s : Stream) (t c : ℕ) → c < length s.siz.comps → shape_of (geometry s t) c ≡ shape_in s t c
shape_is s t c lt = shapes_at s t c no_shape lt

pub there_in : (s : Stream) (t c r : ℕ) → HasResolution (geometry s t) c r → c < length s.siz.comps
there_in s t c r h = subst (λ (n : ℕ). c < n) (shapes_length s t) h.component

same_size : (a b : SideValue) (c : ℕ) → AreBeside a b → size_in a.stream.siz c ≡ size_in b.stream.siz c
same_size a b c h = ap (λ (xs : List CompSize). get_or xs c no_size) (same_comps a b h)

pub same_levels : (a b : SideValue) (c : ℕ) → AreAligned a b c → c < length a.stream.siz.comps → (shape_of (geometry_at a) c).levels ≡ (shape_of (geometry_at b) c).levels
same_levels a b c h lt =
    let there : c < length b.stream.siz.comps = subst (λ (xs : List CompSize). c < length xs) (same_comps a b h.beside) lt in
    ap (λ (z : CompShape). z.levels) (shape_is a.stream a.tile c lt) ∙ ap (λ (z : Component). z.levels) (aligned_coding a b c h)
    ∙ ap (λ (z : CompShape). z.levels) (sym (shape_is b.stream b.tile c there))

pub aligned_band : (a b : SideValue) (n : BandName) → AreAligned a b n.comp → HasBandOf a n → band_in (geometry_at a) n.comp n.res n.band ≡ band_in (geometry_at b) n.comp n.res n.band
aligned_band a b n h has =
    let lt : n.comp < length a.stream.siz.comps = there_in a.stream a.tile n.comp n.res has.resolution in
    let there : n.comp < length b.stream.siz.comps = subst (λ (xs : List CompSize). n.comp < length xs) (same_comps a b h.beside) lt in
    let here_is = shape_is a.stream a.tile n.comp lt in
    let there_is = shape_is b.stream b.tile n.comp there in
    let size = same_size a b n.comp h.beside in
    let dx = ap (λ (z : CompShape). z.dx) here_is ∙ ap (λ (z : CompSize). z.dx) size ∙ ap (λ (z : CompShape). z.dx) (sym there_is) in
    let dy = ap (λ (z : CompShape). z.dy) here_is ∙ ap (λ (z : CompSize). z.dy) size ∙ ap (λ (z : CompShape). z.dy) (sym there_is) in
    same_band (rect_of_tile (geometry_at a)) (shape_of (geometry_at a) n.comp) (shape_of (geometry_at b) n.comp) n.res n.band dx dy (same_levels a b n.comp h lt)
    ∙ ap (λ (c : Canvas). band_rect (tile_rect c a.tile) (shape_of (geometry_at b) n.comp) n.res n.band) (same_canvas a b h.beside)
    ∙ ap (λ (t : ℕ). band_rect (tile_rect (canvas_of b.stream.siz) t) (shape_of (geometry_at b) n.comp) n.res n.band) h.beside.tile

pub aligned_has : (a b : SideValue) (n : BandName) → AreAligned a b n.comp → HasBandOf a n → HasBandOf b n
aligned_has a b n h has =
    let lt : n.comp < length a.stream.siz.comps = there_in a.stream a.tile n.comp n.res has.resolution in
    let there : n.comp < length b.stream.siz.comps = subst (λ (xs : List CompSize). n.comp < length xs) (same_comps a b h.beside) lt in
    record {
      resolution = record {
        component = subst (λ (m : ℕ). n.comp < m) (sym (shapes_length b.stream b.tile)) there;
        level = subst (λ (m : ℕ). n.res ≤ m) (same_levels a b n.comp h lt) has.resolution.level;
      };
      band = has.band;
    }

-- ---- places of a block of the first side, in the band of the other
pub place_in_band : (a : SideValue) (n : BandName) (i : ℕ) (rect : Rect) → rect ≡ rect_in (geometry_at a) n.comp n.res n.band i
    → (x y : ℕ) → InRect rect x y → InRect (band_in (geometry_at a) n.comp n.res n.band) x y
place_in_band a n i rect is x y h =
    in_band (rect_of_tile (geometry_at a)) (shape_of (geometry_at a) n.comp) n.res n.band i x y (subst (λ (r : Rect). InRect r x y) is h)

pub place_over : (a b : SideValue) (n : BandName) → AreAligned a b n.comp → HasBandOf a n → (x y : ℕ) → InRect (band_in (geometry_at a) n.comp n.res n.band) x y
    → InRect (band_in (geometry_at b) n.comp n.res n.band) x y
place_over a b n h has x y inside = subst (λ (r : Rect). InRect r x y) (aligned_band a b n h has) inside

pub first_place : (b : Block) → IsSound b → InRect b.rect b.rect.x.low b.rect.y.low
first_place b sound = record {
  across = record { from = omega arith; below = omega (arith, sound.size.wide) };
  down = record { from = omega arith; below = omega (arith, sound.size.high) };
}

-- ---- whether the coefficients of a place differ
sample_there : (v : SideValue) (n : BandName) (b : Block) (t x y : ℕ) → t ≡ v.tile → Covers v n b → InRect b.rect x y
    → sample_at v.blocks (record { tile = t; comp = n.comp; res = n.res; band = n.band; x = x; y = y }) ≡ Some (sample_in (record { tile = t; comp = n.comp; res = n.res; band = n.band; x = x; y = y }) b)
sample_there v n b t x y tile covers inside =
    subst (λ (i : ℕ). sample_at v.blocks (record { tile = i; comp = n.comp; res = n.res; band = n.band; x = x; y = y }) ≡ Some (sample_in (record { tile = i; comp = n.comp; res = n.res; band = n.band; x = x; y = y }) b))
    (sym tile) (covers.samples x y inside)

pub coef_differs : (a b : SideValue) (n : BandName) (x y : Block) (rect : Rect) (k u v : ℕ) (r : Bool) → a.tile ≡ b.tile → Covers a n x → Covers b n y → u ≡ column_at rect k → v ≡ row_at rect k
    → InRect x.rect u v → InRect y.rect u v → ((p : Place) → p.x ≡ u → p.y ≡ v → r ≡ same_coef (sample_in p x) (sample_in p y))
    → differs (meaning_at a) (meaning_at b) (spot_of_coef a.tile n.comp n.res n.band rect k) ≡ not r
unfolding meaning_of
coef_differs a b n x y rect k u v r tile here there column row in_x in_y is =
    let p : Place = record { tile = a.tile; comp = n.comp; res = n.res; band = n.band; x = column_at rect k; y = row_at rect k } in
    let at_x : InRect x.rect (column_at rect k) (row_at rect k) = subst (λ (j : ℕ). InRect x.rect (column_at rect k) j) row (subst (λ (j : ℕ). InRect x.rect j v) column in_x) in
    let at_y : InRect y.rect (column_at rect k) (row_at rect k) = subst (λ (j : ℕ). InRect y.rect (column_at rect k) j) row (subst (λ (j : ℕ). InRect y.rect j v) column in_y) in
    let own = sample_there a n x a.tile (column_at rect k) (row_at rect k) refl here at_x in
    let other = sample_there b n y a.tile (column_at rect k) (row_at rect k) tile there at_y in
    ap (λ (o : Option Coef). not (same_coef (coef_or o) (coef_or (sample_at b.blocks p)))) own
    ∙ ap (λ (o : Option Coef). not (same_coef (sample_in p x) (coef_or o))) other
    ∙ ap not (sym (is p (sym column) (sym row)))

-- a shelf on which no block stands
pub none_on_shelf : (v : SideValue) (n : BandName) (slots : List (Option Block)) → slots ≡ [] → AreOnShelf v n slots
none_on_shelf v n slots none i b at = absurd (some_none (Some b) (sym at ∙ ap (λ (xs : List (Option Block)). slice_get xs i) none))

-- the same where a codestream's coefficient is asked
pub agree_here : (v : SideValue) (n : BandName) (x y : Block) (u w : ℕ) (r : Bool) → Covers v n y → InRect y.rect u w
    → ((p : Place) → p.x ≡ u → p.y ≡ w → r ≡ same_coef (sample_in p x) (sample_in p y)) → r ≡ agrees_at v n x u w
agree_here v n x y u w r covers inside is =
    let p : Place = place_in v n u w in
    is p refl refl ∙ ap (λ (o : Option Coef). same_coef (sample_in p x) (coef_or o)) (sym (covers.samples u w inside))

place_by : ℕ → BandName → ℕ → ℕ → Place
place_by t n x y = record { tile = t; comp = n.comp; res = n.res; band = n.band; x = x; y = y }

place_same : (n : BandName) (t s x u y v : ℕ) → t ≡ s → x ≡ u → y ≡ v → place_by t n x y ≡ place_by s n u v
place_same n t s x u y v e1 e2 e3 = rw (e1, e2, e3) refl

pub coef_unlike : (a b : SideValue) (n : BandName) (x : Block) (rect : Rect) (k u v : ℕ) (r : Bool) → a.tile ≡ b.tile → Covers a n x → u ≡ column_at rect k → v ≡ row_at rect k
    → InRect x.rect u v → r ≡ agrees_at b n x u v → differs (meaning_at a) (meaning_at b) (spot_of_coef a.tile n.comp n.res n.band rect k) ≡ not r
unfolding meaning_of place_by
coef_unlike a b n x rect k u v r tile here column row inside is =
    let p : Place = place_by a.tile n (column_at rect k) (row_at rect k) in
    let at : InRect x.rect (column_at rect k) (row_at rect k) = subst (λ (j : ℕ). InRect x.rect (column_at rect k) j) row (subst (λ (j : ℕ). InRect x.rect j v) column inside) in
    let own = sample_there a n x a.tile (column_at rect k) (row_at rect k) refl here at in
    ap (λ (o : Option Coef). not (same_coef (coef_or o) (coef_or (sample_at b.blocks p)))) own
    ∙ ap (λ (z : Place). not (same_coef (sample_in z x) (coef_or (sample_at b.blocks z)))) (place_same n a.tile b.tile (column_at rect k) u (row_at rect k) v tile (sym column) (sym row))
    ∙ ap not (sym is)

-- ---- blocks with the same coefficients
sign_same : (b : Bool) → same_sign b b ≡ true
sign_same true = refl
sign_same false = refl

pub coef_same : (c : Coef) → same_coef c c ≡ true
coef_same c =
    and_from (same_sign c.negative c.negative) (c.bits == c.bits && c.planes == c.planes) (sign_same c.negative)
    (and_from (c.bits == c.bits) (c.planes == c.planes) (eq-eqb c.bits c.bits refl) (eq-eqb c.planes c.planes refl))

abbrev sample_by : Place → Rect → ℕ → ℕ → Cells → Coef
sample_by p rect passes none cells =
    let c : Coef = coef_at cells (p.x - rect.x.low) (p.y - rect.y.low) in
    record { negative = c.negative; bits = c.bits; planes = if passes == 0 then 0 else none + c.planes }

by_same : (p : Place) (r q : Rect) (m n y z : ℕ) (u v : Cells) → r ≡ q → m ≡ n → y ≡ z → u ≡ v → sample_by p r m y u ≡ sample_by p q n z v
by_same p r q m n y z u v e d h k = rw (e, d, h, k) refl

alike_sample : (p : Place) (x y : Block) → AreAlike x y → sample_in p x ≡ sample_in p y
alike_sample p x y h = by_same p x.rect y.rect x.passes y.passes x.zero y.zero (own_cells x) (own_cells y) h.rect h.passes h.zero h.cells

pub alike_none : (a b : SideValue) (n : BandName) (x y : Block) → a.tile ≡ b.tile → Covers a n x → Covers b n y → AreAlike x y
    → find (differs (meaning_at a) (meaning_at b)) (coef_items a.tile n.comp n.res n.band x.rect) ≡ None
alike_none a b n x y tile here there alike =
    joined_all (differs (meaning_at a) (meaning_at b)) (coef_item a.tile n.comp n.res n.band x.rect) (size_of x.rect)
    (λ k lt.
    (let inside : InRect x.rect (column_at x.rect k) (row_at x.rect k) = raster_in x.rect k lt in
    one_none (differs (meaning_at a) (meaning_at b)) (spot_of_coef a.tile n.comp n.res n.band x.rect k)
    (coef_differs a b n x y x.rect k (column_at x.rect k) (row_at x.rect k) true tile here there refl refl inside (subst (λ (r : Rect). InRect r (column_at x.rect k) (row_at x.rect k)) alike.rect inside)
    (λ p px py. sym (ap (λ (z : Coef). same_coef (sample_in p x) z) (sym (alike_sample p x y alike)) ∙ coef_same (sample_in p x))))))

-- ---- the spot of a coefficient
pub spot_is : (s : Spot) (t c r : ℕ) (b : Band) (rect : Rect) (k x y t' : ℕ) → s ≡ record { field = field.Coef; tile = t'; comp = c; res = r; band = b; x = x; y = y } → t' ≡ t → x ≡ column_at rect k → y ≡ row_at rect k
    → s ≡ spot_of_coef t c r b rect k
spot_is s t c r b rect k x y t' is e1 e2 e3 = is ∙ rw (e1, e2, e3) refl
