-- Comments and packet lengths at the end of a tile's header change none of its parameters.
use Rattle.std.proofs.Common.{◌≡◌, ◌∙◌, ◌<◌, ◌≤◌, ℕ, suc, true, arith, List, [], ◌∷◌, ◌++◌, length, refl, sym, ap, nat_lt, Option, None, inl, inr}
use Rattle.std.specs.Prelude.{slice_index_or}
use Rattle.std.specs.List.{All, find, flat_map}
use Rattle.std.specs.Option.{option_or}
use Rattle.std.proofs.lemmas.Bool.{cases_Bool, cases_lt}
use Rattle.std.proofs.lemmas.Option.{slice_get-get_or, slice_get_past}
use Rattle.jx_base.specs.declared.names.Band.{Band}
use Rattle.jx_marker.specs.declared.Segment.{Segment}
use Rattle.jx_marker.specs.declared.Siz.{Siz}
use Rattle.jx_marker.specs.declared.Shape.{Shape}
use Rattle.jx_marker.specs.declared.Quant.{Quant}
use Rattle.jx_marker.specs.declared.Cod.{Cod}
use Rattle.jx_codestream.specs.declared.Params.{Params}
use Rattle.jx_codestream.specs.declared.Tile.{Tile}
use Rattle.jx_codestream.specs.declared.Stream.{Stream}
use Rattle.jx_codestream.specs.Index.{gives}
use Rattle.jx_codestream.specs.Tiles.{in_slot}
use Rattle.jx_codestream.specs.First.{canvas_of}
use Rattle.jx_codestream.specs.Params.{shape_of, quant_of, shift_of, cod_in, cod_of, shape_or, quant_or, cod_or, params_from, params_by, step_by, planes_by, header_in, header_of, params_of, step_of, planes_at, tile_has_too_few, tile_planes, planes_fault, limit_4_of}
use Rattle.jx_codestream.specs.Shapes.{shapes_of, layers_of, style_of, tile_at, no_tile}
use Rattle.jx_plan.specs.Asides.{IsAside, IsTileWithMore, IsWithMore}
use Rattle.jx_plan.proofs.AlikeLemmas.{HeadersAlike, none_asked, none_changed, shape_same, quant_same, shift_same, step_same, planes_same, shapes_same, too_few_same, bands_same}
use Rattle.jx_plan.proofs.WrittenLemmas.{slot_more, alike_to, alike_self}

-- each segment that gives a parameter is the same
abbrev pub SlotsSame : List Segment → List Segment → Type 0
SlotsSame xs ys = (slot : ℕ) → gives slot ≡ true → in_slot slot xs ≡ in_slot slot ys

slots_alike : (xs ys : List Segment) → SlotsSame xs ys → HeadersAlike None None xs ys
slots_alike xs ys h slot g = alike_to None None (in_slot slot xs) (in_slot slot ys) (in_slot slot ys) (h slot g) (alike_self (in_slot slot ys))

pub or_same : (x y z w : Option Segment) → x ≡ z → y ≡ w → option_or x y ≡ option_or z w
or_same x y z w e d = rw (e, d) refl

params_alike : (p q : Option Shape) (x y : Option Quant) (m n : ℕ) (u v : Option Cod) → p ≡ q → x ≡ y → m ≡ n → u ≡ v
    → params_from (shape_or p) (cod_or u) (quant_or x) m ≡ params_from (shape_or q) (cod_or v) (quant_or y) n
params_alike p q x y m n u v e d k f = rw (e, d, k, f) refl

module _ (own other main there : List Segment) (here : SlotsSame own other) (mains : SlotsSame main there) where
  alike : HeadersAlike None None own other
  alike = slots_alike own other here

  alike_main : HeadersAlike None None main there
  alike_main = slots_alike main there mains

  cod_same : cod_of own main ≡ cod_of other there
  cod_same = ap cod_in (or_same (in_slot 1 own) (in_slot 1 main) (in_slot 1 other) (in_slot 1 there) (here 1 refl) (mains 1 refl))

  shape_is : (c : ℕ) → shape_of own main c ≡ shape_of other there c
  shape_is c = shape_same None None own other main there alike alike_main c ∙ none_asked (shape_of other there c)

  pub params_same : (c : ℕ) → params_by own main c ≡ params_by other there c
  params_same c =
      params_alike (shape_of own main c) (shape_of other there c) (quant_of own main c) (quant_of other there c) (shift_of own main c) (shift_of other there c) (cod_of own main) (cod_of other there)
      (shape_is c) (quant_same None None own other main there alike alike_main c) (shift_same None None own other main there alike alike_main c) cod_same

  pub step_is : (c r : ℕ) (band : Band) → step_by own main c r band ≡ step_by other there c r band
  step_is c r band = step_same None None own other main there alike alike_main c r band

  pub planes_are : (c r : ℕ) (band : Band) → planes_by own main c r band ≡ planes_by other there c r band
  planes_are c r band = planes_same None None own other main there alike alike_main c r band

-- a header with more

pub more_slots : (comps : ℕ) (own more : List Segment) → All (IsAside comps) more → SlotsSame (own ++ more) own
more_slots comps own more h slot g = slot_more comps slot own more g h

pub no_slots : (main : List Segment) → SlotsSame main main
no_slots main slot g = refl

-- a tile with more

tile_slots : (comps : ℕ) (t other : Tile) → IsTileWithMore comps t other → SlotsSame other.header t.header
tile_slots comps t other h slot g = ap (λ (xs : List Segment). in_slot slot xs) h.header ∙ slot_more comps slot t.header h.more g h.asides

slots_to : (xs ys zs ws : List Segment) → xs ≡ ys → zs ≡ ws → SlotsSame ys ws → SlotsSame xs zs
slots_to xs ys zs ws e d h slot g = ap (λ (s : List Segment). in_slot slot s) e ∙ h slot g ∙ ap (λ (s : List Segment). in_slot slot s) (sym d)

abbrev AreTilesWithMore : ℕ → List Tile → List Tile → Type 0
AreTilesWithMore comps tiles others = (t : ℕ) → t < length tiles → IsTileWithMore comps (slice_index_or tiles t no_tile) (slice_index_or others t no_tile)

few_more : (comps : ℕ) (main : List Segment) (t other : Tile) → IsTileWithMore comps t other → tile_has_too_few main comps other ≡ tile_has_too_few main comps t
unfolding tile_has_too_few
few_more comps main t other h = too_few_same None None other.header t.header main main (slots_alike other.header t.header (tile_slots comps t other h)) (slots_alike main main (no_slots main)) comps

bands_more : (comps : ℕ) (main : List Segment) (t other : Tile) → IsTileWithMore comps t other → tile_planes main comps other ≡ tile_planes main comps t
unfolding tile_planes
bands_more comps main t other h = bands_same None None other.header t.header main main (slots_alike other.header t.header (tile_slots comps t other h)) (slots_alike main main (no_slots main)) comps

none_few : (comps : ℕ) (main : List Segment) (tiles others : List Tile) → length others ≡ length tiles → AreTilesWithMore comps tiles others
    → find (tile_has_too_few main comps) tiles ≡ None → find (tile_has_too_few main comps) others ≡ None
none_few comps main [] [] count h none = refl
none_few comps main [] (y ∷ ys) count h none = absurd (omega arith)
none_few comps main (x ∷ xs) [] count h none = absurd (omega arith)
none_few comps main (x ∷ xs) (y ∷ ys) count h none = elim (cases_Bool (tile_has_too_few main comps x)) [
  | inl t ↦ let e = rw t at none in absurd (cc)
  | inr f ↦ rw (few_more comps main x y (h 0 (omega arith)), f) (none_few comps main xs ys (omega arith) (λ t lt. h (suc t) (omega arith)) (rw f at none))
]

all_bands : (comps : ℕ) (main : List Segment) (tiles others : List Tile) → length others ≡ length tiles → AreTilesWithMore comps tiles others
    → flat_map (tile_planes main comps) others ≡ flat_map (tile_planes main comps) tiles
all_bands comps main [] [] count h = refl
all_bands comps main [] (y ∷ ys) count h = absurd (omega arith)
all_bands comps main (x ∷ xs) [] count h = absurd (omega arith)
all_bands comps main (x ∷ xs) (y ∷ ys) count h =
    rw (bands_more comps main x y (h 0 (omega arith)), all_bands comps main xs ys (omega arith) (λ t lt. h (suc t) (omega arith))) refl

-- a stream with more

module _ (s other : Stream) (more : IsWithMore s other) where
  own_slots : (t : ℕ) → SlotsSame (header_of other t) (header_of s t)
  own_slots t = elim (cases_lt t (length s.tiles)) [
    | inl lt ↦
        let within : t < length other.tiles = omega (arith, more.count) in
        slots_to (header_of other t) (tile_at other t).header (header_of s t) (tile_at s t).header (ap header_in (slice_get-get_or other.tiles t no_tile within))
        (ap header_in (slice_get-get_or s.tiles t no_tile lt)) (tile_slots (length s.siz.comps) (tile_at s t) (tile_at other t) (more.each t lt))
    | inr past ↦
        let within : length other.tiles ≤ t = omega (arith, more.count) in
        slots_to (header_of other t) [] (header_of s t) [] (ap header_in (slice_get_past other.tiles t within)) (ap header_in (slice_get_past s.tiles t past)) (no_slots [])
  ]

  main_slots : SlotsSame other.main s.main
  main_slots slot g = ap (λ (xs : List Segment). in_slot slot xs) more.main

  pub params_with_more : (t c : ℕ) → params_of other t c ≡ params_of s t c
  params_with_more t c = params_same (header_of other t) (header_of s t) other.main s.main (own_slots t) main_slots c

  pub step_with_more : (t c r : ℕ) (band : Band) → step_of other t c r band ≡ step_of s t c r band
  step_with_more t c r band = step_is (header_of other t) (header_of s t) other.main s.main (own_slots t) main_slots c r band

  pub planes_with_more : (t c r : ℕ) (band : Band) → planes_at other t c r band ≡ planes_at s t c r band
  planes_with_more t c r band = planes_are (header_of other t) (header_of s t) other.main s.main (own_slots t) main_slots c r band

  pub shapes_with_more : (t : ℕ) → shapes_of other t ≡ shapes_of s t
  shapes_with_more t =
      shapes_same None None (header_of other t) (header_of s t) other.main s.main (slots_alike (header_of other t) (header_of s t) (own_slots t)) (slots_alike other.main s.main main_slots) other.siz s.siz
      (ap (λ (x : Siz). x.comps) more.siz) (λ comp. tt)
      ∙ none_changed (shapes_of s t)

  pub layers_with_more : (t : ℕ) → layers_of other t ≡ layers_of s t
  layers_with_more t = ap (λ (p : Params). p.layers) (params_with_more t 0)

  pub style_with_more : (t c : ℕ) → style_of other t c ≡ style_of s t c
  style_with_more t c = ap (λ (p : Params). p.style.bits) (params_with_more t c)

  pub canvas_with_more : canvas_of other.siz ≡ canvas_of s.siz
  canvas_with_more = ap canvas_of more.siz

  pub entries_with_more : find (tile_has_too_few s.main (length s.siz.comps)) s.tiles ≡ None → find (tile_has_too_few other.main (length other.siz.comps)) other.tiles ≡ None
  entries_with_more none =
      let same : find (tile_has_too_few s.main (length s.siz.comps)) other.tiles ≡ None = none_few (length s.siz.comps) s.main s.tiles other.tiles more.count more.each none in
      ap (λ (siz : Siz). find (tile_has_too_few other.main (length siz.comps)) other.tiles) more.siz
      ∙ ap (λ (main : List Segment). find (tile_has_too_few main (length s.siz.comps)) other.tiles) more.main ∙ same

  pub fault_with_more : planes_fault other.main (length other.siz.comps) other.tiles ≡ planes_fault s.main (length s.siz.comps) s.tiles
  fault_with_more =
      ap (λ (siz : Siz). planes_fault other.main (length siz.comps) other.tiles) more.siz
      ∙ ap (λ (main : List Segment). planes_fault main (length s.siz.comps) other.tiles) more.main
      ∙ ap (λ (xs : List ℕ). limit_4_of (find (nat_lt 74) xs)) (all_bands (length s.siz.comps) s.main s.tiles other.tiles more.count more.each)
