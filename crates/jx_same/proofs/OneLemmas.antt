-- Two codestreams of which no value differs: what both mean within their canvas is one.
use Rattle.std.proofs.Common.{◌≡◌, ◌∙◌, ◌+◌, ◌<◌, ◌≤◌, ◌==◌, ℕ, List, [], ◌∷◌, ◌++◌, length, ap, refl, sym, subst, arith, Bool, true, false, ◌&&◌, Option, None, Some}
use Rattle.std.specs.List.{find, flat_map, slice_get}
use Rattle.std.specs.Option.{option_map}
use Rattle.std.proofs.lemmas.Bool.{and_parts, eqb-true, not-false}
use Rattle.jx_base.specs.declared.names.Band.{Band}
use Rattle.jx_base.specs.declared.names.Band.TheVariants.{LL, HL, LH, HH}
use Rattle.jx_base.specs.declared.names.BlockName.{BlockName}
use Rattle.jx_base.specs.declared.names.Rect.{Rect}
use Rattle.jx_base.specs.declared.pieces.Block.{Block}
use Rattle.jx_base.specs.Bands.{bands_at}
use Rattle.jx_base.specs.Joined.{joined}
use Rattle.jx_base.specs.Places.{InRect, column_at, number_at, row_at, size_of}
use Rattle.jx_base.proofs.Lists.{all_at, find_none}
use Rattle.jx_base.proofs.Raster.{number_below, number_column, number_row}
use Rattle.jx_geom.specs.declared.shape.CompShape.{CompShape}
use Rattle.jx_geom.specs.Geometry.{blocks_in, rect_of_tile, shape_of}
use Rattle.jx_geom.specs.Ranges.{HasBand}
use Rattle.jx_geom.proofs.LeafLemmas.{bands_high, bands_low}
use Rattle.jx_marker.specs.declared.CompSize.{CompSize}
use Rattle.jx_marker.specs.declared.Siz.{Siz}
use Rattle.jx_tier1_specs.specs.declared.coef.Coef.{Coef}
use Rattle.jx_codestream.specs.declared.Stream.{Stream}
use Rattle.jx_codestream.specs.First.{canvas_of, tile_number}
use Rattle.jx_codestream.specs.Params.{params_of, step_of}
use Rattle.jx_codestream.specs.Shapes.{geometry, shapes_of}
use Rattle.jx_tier2_reader.specs.BlockOf.{AreBlocksOf}
use Rattle.jx_geom.specs.Numbering.{IsBlock}
use Rattle.jx_plan.specs.Meaning.{Place, component_of, lies_in, meaning_of, sample_at, sample_in}
use Rattle.jx_plan.specs.Plan.{MayBePlanned}
use Rattle.jx_same.specs.declared.answer.Field.{Field}
use Rattle.jx_same.specs.declared.answer.Field.TheVariants as field
use Rattle.jx_same.specs.declared.answer.Spot.{Spot}
use Rattle.jx_same.specs.declared.side.BandName.{BandName}
use Rattle.jx_same.specs.Items.{band_items, block_items, coding_fields, coding_items, coef_item, coef_or, component_items, differs, items_of, picture_items, rect_in, resolution_items, same_coef, same_sign, spot_of_band, spot_of_coef, spot_of_component, step_fields, step_items, tile_items}
use Rattle.jx_same.specs.Sides.{AreAligned, HasBandOf, SideValue, unlike_coding, unlike_step}
use Rattle.jx_same.specs.Within.{MeanOne}
use Rattle.jx_same.proofs.BlockLemmas.{aligned_has, place_over, shape_is, there_in}
use Rattle.jx_same.proofs.FieldLemmas.{alike, coding_found, coding_same, step_found}
use Rattle.jx_same.proofs.FindLemmas.{find_there, joined_each, none_left, none_right}
use Rattle.jx_same.proofs.HeaderLemmas.{map_none, picture_same}
use Rattle.jx_same.proofs.PlaceLemmas.{in_band, index_over, over_below, over_has}
use Rattle.jx_same.proofs.SampleLemmas.{Has, IsAt, block_there, lies_to, name_there, sample_is}

-- ---- one band of a resolution, and one item
band_none : (p : Spot → Bool) (f : Band → List Spot) (r : ℕ) (b : Band) → HasBand r b → find p (flat_map f (bands_at r)) ≡ None → find p (f b) ≡ None
band_none p f r LL has none = none_left p (f LL) [] (ap (λ (bands : List Band). find p (flat_map f bands)) (sym (bands_low r has)) ∙ none)
band_none p f r HL has none = none_left p (f HL) (f LH ++ (f HH ++ [])) (ap (λ (bands : List Band). find p (flat_map f bands)) (sym (bands_high r has)) ∙ none)
band_none p f r LH has none =
    none_left p (f LH) (f HH ++ []) (none_right p (f HL) (f LH ++ (f HH ++ [])) (ap (λ (bands : List Band). find p (flat_map f bands)) (sym (bands_high r has)) ∙ none))
band_none p f r HH has none =
    none_left p (f HH) [] (none_right p (f LH) (f HH ++ []) (none_right p (f HL) (f LH ++ (f HH ++ [])) (ap (λ (bands : List Band). find p (flat_map f bands)) (sym (bands_high r has)) ∙ none)))

item_none : (p : Spot → Bool) (s : Spot) → find p (s ∷ []) ≡ None → p s ≡ false
item_none p s none = all_at (λ (z : Spot). p z ≡ false) (s ∷ []) 0 s (find_none p (s ∷ []) none) refl

-- ---- a step and a coefficient
pair_same : (p q : ℕ × ℕ) → p.0 ≡ q.0 → p.1 ≡ q.1 → p ≡ q
pair_same p q first second = ap (λ (n : ℕ). (n, p.1)) first ∙ ap (λ (n : ℕ). (q.0, n)) second

step_same : (p q : ℕ × ℕ) → find (unlike_step p q) step_fields ≡ None → p ≡ q
step_same p q none =
    let all = find_none (unlike_step p q) step_fields none in
    let P : Field → Type 0 = λ f. unlike_step p q f ≡ false in
    pair_same p q (alike p.0 q.0 (all_at P step_fields 0 field.Exponent all refl)) (alike p.1 q.1 (all_at P step_fields 1 field.Mantissa all refl))

sign_is : (a b : Bool) → same_sign a b ≡ true → a ≡ b
sign_is true b h = sym h
sign_is false true h = h
sign_is false false h = refl

coef_by : Bool → ℕ → ℕ → Coef
coef_by n b p = record { negative = n; bits = b; planes = p }

coefs_same : (m n : Bool) (b c p q : ℕ) → m ≡ n → b ≡ c → p ≡ q → coef_by m b p ≡ coef_by n c q
coefs_same m n b c p q e1 e2 e3 = rw (e1, e2, e3) refl

pub coef_is : (a b : Coef) → same_coef a b ≡ true → a ≡ b
unfolding coef_by
coef_is a b h =
    let first = and_parts (same_sign a.negative b.negative) (a.bits == b.bits && a.planes == b.planes) h in
    let more = and_parts (a.bits == b.bits) (a.planes == b.planes) first.1 in
    coefs_same a.negative b.negative a.bits b.bits a.planes b.planes (sign_is a.negative b.negative first.0) (eqb-true a.bits b.bits more.0) (eqb-true a.planes b.planes more.1)

-- ---- a place that a block has
pub record Covered (s : Stream) (x : List Block) (p : Place) : Type 0 where
  pub name : BlockName
  pub block : Block
  pub here : IsAt s x name block
  pub has : Has p block

found_by : (x : List Block) (p : Place) (o : Option Block) (c : Coef) → find (lies_in p) x ≡ o → option_map (sample_in p) o ≡ Some c → (b : Block) × (find (lies_in p) x ≡ Some b)
found_by x p None c e h = absurd (cc)
found_by x p (Some b) c e h = (b, e)

covered : (s : Stream) (x : List Block) (p : Place) (c : Coef) → AreBlocksOf s x → sample_at x p ≡ Some c → Covered s x p
covered s x p c are is =
    let found = found_by x p (find (lies_in p) x) c refl is in
    let there = find_there (lies_in p) x found.0 found.1 in
    let named = name_there s x there.0 found.0 are there.1 in
    record {
      name = named.name;
      block = found.0;
      here = record { is = named.is; at = ap (λ (k : ℕ). slice_get x k) named.number ∙ there.1; own = named.own };
      has = lies_to p found.0 there.2;
    }

-- the same place by its numbers
place_by : ℕ → ℕ → ℕ → Band → ℕ → ℕ → Place
place_by t c r b x y = record { tile = t; comp = c; res = r; band = b; x = x; y = y }

places_same : (t u c d r q : ℕ) (b e : Band) (x v y w : ℕ) → t ≡ u → c ≡ d → r ≡ q → b ≡ e → x ≡ v → y ≡ w → place_by t c r b x y ≡ place_by u d q e v w
places_same t u c d r q b e x v y w e1 e2 e3 e4 e5 e6 = rw (e1, e2, e3, e4, e5, e6) refl

-- two coefficients that are there
coefs_one : (o u : Option Coef) (c d : Coef) → o ≡ Some c → u ≡ Some d → coef_or o ≡ coef_or u → o ≡ u
coefs_one o u c d e f h = e ∙ ap (λ (z : Coef). Some z) (sym (ap coef_or e) ∙ h ∙ ap coef_or f) ∙ sym f

-- ---- a place that a block of one codestream has lies in a block of another one that has the same bands
abbrev side_at : Stream → List Block → ℕ → SideValue
side_at s x i = record { stream = s; blocks = x; tile = i }

abbrev band_named : BlockName → BandName
band_named n = record { comp = n.comp; res = n.res; band = n.band }

pub covered_over : (s t : Stream) (x y : List Block) (p : Place) (c : Covered s x p) → c.name.tile < tile_number t.siz → AreAligned (side_at s x c.name.tile) (side_at t y c.name.tile) c.name.comp
    → AreBlocksOf t y → Covered t y p
covered_over s t x y p c below aligned are =
    let n = c.name in
    let a = side_at s x n.tile in
    let b = side_at t y n.tile in
    let name = band_named n in
    let has : HasBandOf a name = record { resolution = c.here.is.1.resolution; band = c.here.is.1.band } in
    let there : HasBandOf b name = aligned_has a b name aligned has in
    let P : Rect → Type 0 = λ r. InRect r p.x p.y in
    let g = geometry s n.tile in
    let inside = in_band (rect_of_tile g) (shape_of g n.comp) n.res n.band n.index p.x p.y (subst P c.here.own.rect c.has.place) in
    let over = place_over a b name aligned has p.x p.y inside in
    let h = geometry t n.tile in
    let i = index_over (rect_of_tile h) (shape_of h n.comp) n.res n.band p.x p.y in
    let m : BlockName = record { tile = n.tile; comp = n.comp; res = n.res; band = n.band; index = i } in
    let is : IsBlock (canvas_of t.siz) (shapes_of t) m = (
      below,
      record { tile = refl; resolution = there.resolution; band = there.band; index = over_below (rect_of_tile h) (shape_of h n.comp) n.res n.band p.x p.y over },
    ) in
    let found = block_there t y m are is in
    let own = found.there.own in
    record {
      name = m;
      block = found.block;
      here = found.there;
      has = record {
        tile = c.has.tile ∙ ap (λ (z : BlockName). z.tile) c.here.own.name ∙ ap (λ (z : BlockName). z.tile) (sym own.name);
        comp = c.has.comp ∙ ap (λ (z : BlockName). z.comp) c.here.own.name ∙ ap (λ (z : BlockName). z.comp) (sym own.name);
        res = c.has.res ∙ ap (λ (z : BlockName). z.res) c.here.own.name ∙ ap (λ (z : BlockName). z.res) (sym own.name);
        band = c.has.band ∙ ap (λ (z : BlockName). z.band) c.here.own.name ∙ ap (λ (z : BlockName). z.band) (sym own.name);
        place = subst P (sym own.rect) (over_has (rect_of_tile h) (shape_of h n.comp) n.res n.band p.x p.y over);
      };
    }

aligned_back : (a b : SideValue) (c : ℕ) → AreAligned a b c → AreAligned b a c
aligned_back a b c h = record { beside = record { tile = sym h.beside.tile; siz = sym h.beside.siz }; component = sym h.component }

-- ---- where no value of a tile-component differs
module _ (s t : Stream) (x y : List Block) (i c : ℕ) (none : find (differs (meaning_of s x) (meaning_of t y)) (component_items (geometry s i) c) ≡ None) where
  pub coding_none : component_of (params_of s i c) ≡ component_of (params_of t i c)
  coding_none =
      let g = geometry s i in
      let here = none_left (differs (meaning_of s x) (meaning_of t y)) (coding_items i c) (joined (resolution_items g c) 0 ((shape_of g c).levels + 1)) none in
      coding_same (component_of (params_of s i c)) (component_of (params_of t i c))
      (map_none (spot_of_component i c) (find (unlike_coding (component_of (params_of s i c)) (component_of (params_of t i c))) coding_fields) (sym (coding_found s t x y i c) ∙ here))

  pub band_within : (r : ℕ) (e : Band) → r ≤ (shape_of (geometry s i) c).levels → HasBand r e → find (differs (meaning_of s x) (meaning_of t y)) (band_items (geometry s i) c r e) ≡ None
  band_within r e level has =
      let q = differs (meaning_of s x) (meaning_of t y) in
      let g = geometry s i in
      band_none q (band_items g c r) r e has
      (joined_each q (resolution_items g c) r ((shape_of g c).levels + 1)
      (none_right q (coding_items i c) (joined (resolution_items g c) 0 ((shape_of g c).levels + 1)) none) (omega arith))

  pub step_none : (r : ℕ) (e : Band) → r ≤ (shape_of (geometry s i) c).levels → HasBand r e → step_of s i c r e ≡ step_of t i c r e
  step_none r e level has =
      let q = differs (meaning_of s x) (meaning_of t y) in
      let g = geometry s i in
      let here = none_left q (step_items i c r e) (joined (block_items g c r e) 0 (size_of (blocks_in g c r e))) (band_within r e level has) in
      step_same (step_of s i c r e) (step_of t i c r e)
      (map_none (spot_of_band i c r e) (find (unlike_step (step_of s i c r e) (step_of t i c r e)) step_fields) (sym (step_found s t x y i c r e) ∙ here))

-- ---- where no value of two codestreams differs
module _ (s t : Stream) (x y : List Block) (a : MayBePlanned s x) (b : MayBePlanned t y) (none : find (differs (meaning_of s x) (meaning_of t y)) (items_of s) ≡ None) where
  siz : ◌≡◌ {A = Siz} (record s.siz { rsiz = 0 }) (record t.siz { rsiz = 0 })
  unfolding items_of
  siz = picture_same s t x y (none_left (differs (meaning_of s x) (meaning_of t y)) (picture_items s.siz) (joined (tile_items s) 0 (tile_number s.siz)) none)

  tiles : tile_number s.siz ≡ tile_number t.siz
  tiles = ap (λ (z : Siz). tile_number z) siz

  comps : s.siz.comps ≡ t.siz.comps
  comps = ap (λ (z : Siz). z.comps) siz

  component_none : (i c : ℕ) → i < tile_number s.siz → c < length s.siz.comps → find (differs (meaning_of s x) (meaning_of t y)) (component_items (geometry s i) c) ≡ None
  unfolding items_of tile_items
  component_none i c inside lt =
      let q = differs (meaning_of s x) (meaning_of t y) in
      joined_each q (component_items (geometry s i)) c (length s.siz.comps)
      (joined_each q (tile_items s) i (tile_number s.siz) (none_right q (picture_items s.siz) (joined (tile_items s) 0 (tile_number s.siz)) none) inside) lt

  coding : (i c : ℕ) → i < tile_number s.siz → c < length s.siz.comps → component_of (params_of s i c) ≡ component_of (params_of t i c)
  coding i c inside lt = coding_none s t x y i c (component_none i c inside lt)

  aligned : (i c : ℕ) → i < tile_number s.siz → c < length s.siz.comps → AreAligned (side_at s x i) (side_at t y i) c
  unfolding meaning_of
  aligned i c inside lt = record { beside = record { tile = refl; siz = siz }; component = coding i c inside lt }

  -- the coefficient of a place that a block has
  same_at : (p : Place) → Covered s x p → sample_at x p ≡ sample_at y p
  unfolding meaning_of place_by
  same_at p c =
      let q = differs (meaning_of s x) (meaning_of t y) in
      let n = c.name in
      let g = geometry s n.tile in
      let inside : n.tile < tile_number s.siz = c.here.is.0 in
      let lt : n.comp < length s.siz.comps = there_in s n.tile n.comp n.res c.here.is.1.resolution in
      let other = covered_over s t x y p c (subst (λ (k : ℕ). n.tile < k) tiles inside) (aligned n.tile n.comp inside lt) b.blocks_are in
      let own_at = sample_is s x n c.block p a.blocks_are c.here c.has in
      let other_at = sample_is t y other.name other.block p b.blocks_are other.here other.has in
      let rect = rect_in g n.comp n.res n.band n.index in
      let all = none_right q (step_items n.tile n.comp n.res n.band) (joined (block_items g n.comp n.res n.band) 0 (size_of (blocks_in g n.comp n.res n.band)))
      (band_within s t x y n.tile n.comp (component_none n.tile n.comp inside lt) n.res n.band c.here.is.1.resolution.level c.here.is.1.band) in
      let block = joined_each q (block_items g n.comp n.res n.band) n.index (size_of (blocks_in g n.comp n.res n.band)) all c.here.is.1.index in
      let place : InRect rect p.x p.y = subst (λ (r : Rect). InRect r p.x p.y) c.here.own.rect c.has.place in
      let k = number_at rect p.x p.y in
      let one = joined_each q (coef_item n.tile n.comp n.res n.band rect) k (size_of rect) block (number_below rect p.x p.y place) in
      let o = place_by n.tile n.comp n.res n.band (column_at rect k) (row_at rect k) in
      let alike : same_coef (coef_or (sample_at x o)) (coef_or (sample_at y o)) ≡ true =
      not-false (same_coef (coef_or (sample_at x o)) (coef_or (sample_at y o))) (item_none q (spot_of_coef n.tile n.comp n.res n.band rect k) one) in
      let is : o ≡ p = places_same n.tile p.tile n.comp p.comp n.res p.res n.band p.band (column_at rect k) p.x (row_at rect k) p.y
      (sym (c.has.tile ∙ ap (λ (z : BlockName). z.tile) c.here.own.name)) (sym (c.has.comp ∙ ap (λ (z : BlockName). z.comp) c.here.own.name))
      (sym (c.has.res ∙ ap (λ (z : BlockName). z.res) c.here.own.name)) (sym (c.has.band ∙ ap (λ (z : BlockName). z.band) c.here.own.name))
      (number_column rect p.x p.y place) (number_row rect p.x p.y place) in
      let equal : coef_or (sample_at x p) ≡ coef_or (sample_at y p) =
      subst (λ (z : Place). coef_or (sample_at x z) ≡ coef_or (sample_at y z)) is (coef_is (coef_or (sample_at x o)) (coef_or (sample_at y o)) alike) in
      coefs_one (sample_at x p) (sample_at y p) (sample_in p c.block) (sample_in p other.block) own_at other_at equal

  -- one that a block of the other has
  same_back : (p : Place) → Covered t y p → sample_at x p ≡ sample_at y p
  same_back p c =
      let n = c.name in
      let inside : n.tile < tile_number s.siz = subst (λ (k : ℕ). n.tile < k) (sym tiles) c.here.is.0 in
      let there : n.comp < length t.siz.comps = there_in t n.tile n.comp n.res c.here.is.1.resolution in
      let lt : n.comp < length s.siz.comps = subst (λ (xs : List CompSize). n.comp < length xs) (sym comps) there in
      same_at p (covered_over t s y x p c inside (aligned_back (side_at s x n.tile) (side_at t y n.tile) n.comp (aligned n.tile n.comp inside lt)) a.blocks_are)

  -- and one that none has
  same_or : (p : Place) (o u : Option Coef) → sample_at x p ≡ o → sample_at y p ≡ u → sample_at x p ≡ sample_at y p
  same_or p None None e f = e ∙ sym f
  same_or p None (Some c) e f = same_back p (covered t y p c b.blocks_are f)
  same_or p (Some c) u e f = same_at p (covered s x p c a.blocks_are e)

  pub means_one : MeanOne (meaning_of s x) (meaning_of t y)
  unfolding meaning_of
  means_one = record {
    siz = siz;
    component = λ i c there. coding i c there.tile there.component;
    step = λ i c r e there level has. step_none s t x y i c (component_none i c there.tile there.component) r e
        (subst (λ (k : ℕ). r ≤ k) (sym (ap (λ (z : CompShape). z.levels) (shape_is s i c there.component))) level) has;
    sample = λ p. same_or p (sample_at x p) (sample_at y p) refl refl;
  }
