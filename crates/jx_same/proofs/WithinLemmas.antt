-- Two codestreams of which no value differs mean one thing within their canvas, and the other way round.
use Rattle.std.proofs.Common.{◌≡◌, ◌∙◌, ◌+◌, ◌<◌, ℕ, List, [], ◌++◌, map, length, ap, refl, sym, arith, Bool, not, Option, None}
use Rattle.std.specs.List.{find, flat_map}
use Rattle.std.specs.Option.{option_map}
use Rattle.jx_base.specs.declared.names.Band.{Band}
use Rattle.jx_base.specs.declared.names.Band.TheVariants.{LL, HL, LH, HH}
use Rattle.jx_base.specs.declared.names.Rect.{Rect}
use Rattle.jx_base.specs.declared.pieces.Block.{Block}
use Rattle.jx_base.specs.Bands.{bands_at}
use Rattle.jx_base.specs.Joined.{joined}
use Rattle.jx_base.specs.Places.{column_at, row_at, size_of}
use Rattle.jx_geom.specs.Geometry.{blocks_in, shape_of}
use Rattle.jx_geom.specs.Ranges.{HasBand}
use Rattle.jx_geom.proofs.LeafLemmas.{bands_high}
use Rattle.jx_marker.specs.declared.Siz.{Siz}
use Rattle.jx_tier1_specs.specs.declared.coef.Coef.{Coef}
use Rattle.jx_codestream.specs.declared.Stream.{Stream}
use Rattle.jx_codestream.specs.First.{tile_number}
use Rattle.jx_codestream.specs.Params.{params_of, step_of}
use Rattle.jx_codestream.specs.Shapes.{geometry, size_in}
use Rattle.jx_plan.specs.Meaning.{Component, Place, component_of, meaning_of, sample_at}
use Rattle.jx_same.specs.declared.answer.Spot.{Spot}
use Rattle.jx_same.specs.Items.{band_items, block_items, coding_fields, coding_items, coef_item, coef_items, coef_or, component_items, differs, items_of, picture_fields, picture_items, rect_in, resolution_items, same_coef, size_fields, size_items, spot_of_band, spot_of_coef, spot_of_component, step_fields, step_items, tile_items}
use Rattle.jx_same.specs.Sides.{unlike_coding, unlike_picture, unlike_size, unlike_step}
use Rattle.jx_same.specs.Within.{IsThere, MeanOne}
use Rattle.jx_same.proofs.BlockLemmas.{coef_same, shape_is}
use Rattle.jx_same.proofs.FieldLemmas.{coding_found, picture_found, size_found, step_found}
use Rattle.jx_same.proofs.FindLemmas.{behind, joined_all, one_none}
use Rattle.jx_same.proofs.HeaderLemmas.{self_none}

-- ---- the bands of a resolution
pub bands_all : (p : Spot → Bool) (f : Band → List Spot) (r : ℕ) → ((b : Band) → HasBand r b → find p (f b) ≡ None) → find p (flat_map f (bands_at r)) ≡ None
bands_all p f ℕ.zero each = behind p (f LL) [] None (each LL refl) refl
bands_all p f (ℕ.suc r) each =
    ap (λ (bands : List Band). find p (flat_map f bands)) (bands_high (ℕ.suc r) (omega arith))
    ∙ behind p (f HL) (f LH ++ (f HH ++ [])) None (each HL (omega arith)) (behind p (f LH) (f HH ++ []) None (each LH (omega arith)) (behind p (f HH) [] None (each HH (omega arith)) refl))

-- ---- what means one thing differs in no value
module _ (s t : Stream) (x y : List Block) where
  none_picture : ◌≡◌ {A = Siz} (record s.siz { rsiz = 0 }) (record t.siz { rsiz = 0 }) → find (differs (meaning_of s x) (meaning_of t y)) (picture_items s.siz) ≡ None
  none_picture e =
      let p = differs (meaning_of s x) (meaning_of t y) in
      behind p (map (spot_of_component 0 0) picture_fields) (joined size_items 0 (length s.siz.comps)) None
      (picture_found s t x y ∙ ap (λ (z : Siz). option_map (spot_of_component 0 0) (find (unlike_picture s.siz z) picture_fields)) (sym e)
      ∙ sym (picture_found s s x x) ∙ self_none (meaning_of s x) (map (spot_of_component 0 0) picture_fields))
      (joined_all p size_items (length s.siz.comps) (λ c lt.
      (size_found s t x y c ∙ ap (λ (z : Siz). option_map (spot_of_component 0 c) (find (unlike_size (size_in s.siz c) (size_in z c)) size_fields)) (sym e)
      ∙ sym (size_found s s x x c) ∙ self_none (meaning_of s x) (size_items c))))

  pub none_coding : (i c : ℕ) → component_of (params_of s i c) ≡ component_of (params_of t i c) → find (differs (meaning_of s x) (meaning_of t y)) (coding_items i c) ≡ None
  none_coding i c e =
      coding_found s t x y i c ∙ ap (λ (z : Component). option_map (spot_of_component i c) (find (unlike_coding (component_of (params_of s i c)) z) coding_fields)) (sym e)
      ∙ sym (coding_found s s x x i c) ∙ self_none (meaning_of s x) (coding_items i c)

  pub none_step : (i c r : ℕ) (b : Band) → step_of s i c r b ≡ step_of t i c r b → find (differs (meaning_of s x) (meaning_of t y)) (step_items i c r b) ≡ None
  none_step i c r b e =
      step_found s t x y i c r b ∙ ap (λ (z : ℕ × ℕ). option_map (spot_of_band i c r b) (find (unlike_step (step_of s i c r b) z) step_fields)) (sym e)
      ∙ sym (step_found s s x x i c r b) ∙ self_none (meaning_of s x) (step_items i c r b)

  none_coefs : (i c r : ℕ) (b : Band) (rect : Rect) → ((p : Place) → sample_at x p ≡ sample_at y p) → find (differs (meaning_of s x) (meaning_of t y)) (coef_items i c r b rect) ≡ None
  unfolding meaning_of
  none_coefs i c r b rect same =
      let p = differs (meaning_of s x) (meaning_of t y) in
      joined_all p (coef_item i c r b rect) (size_of rect) (λ k lt.
      (let place : Place = record { tile = i; comp = c; res = r; band = b; x = column_at rect k; y = row_at rect k } in
      one_none p (spot_of_coef i c r b rect k)
      (ap (λ (o : Option Coef). not (same_coef (coef_or (sample_at x place)) (coef_or o))) (sym (same place)) ∙ ap not (coef_same (coef_or (sample_at x place))))))

  none_component : (i c : ℕ) → i < tile_number s.siz → c < length s.siz.comps → MeanOne (meaning_of s x) (meaning_of t y)
      → find (differs (meaning_of s x) (meaning_of t y)) (component_items (geometry s i) c) ≡ None
  unfolding meaning_of
  none_component i c inside lt one =
      let p = differs (meaning_of s x) (meaning_of t y) in
      let g = geometry s i in
      let there : IsThere (meaning_of s x) i c = record { tile = inside; component = lt } in
      let levels : (shape_of g c).levels ≡ (params_of s i c).levels = ap (λ z. z.levels) (shape_is s i c lt) in
      behind p (coding_items i c) (joined (resolution_items g c) 0 ((shape_of g c).levels + 1)) None (none_coding i c (one.component i c there))
      (joined_all p (resolution_items g c) ((shape_of g c).levels + 1) (λ r below.
      bands_all p (band_items g c r) r (λ b has.
      behind p (step_items i c r b) (joined (block_items g c r b) 0 (size_of (blocks_in g c r b))) None
      (none_step i c r b (one.step i c r b there (omega (arith, below, levels)) has))
      (joined_all p (block_items g c r b) (size_of (blocks_in g c r b)) (λ k d. none_coefs i c r b (rect_in g c r b k) one.sample)))))

  pub none_differs : MeanOne (meaning_of s x) (meaning_of t y) → find (differs (meaning_of s x) (meaning_of t y)) (items_of s) ≡ None
  unfolding meaning_of items_of tile_items
  none_differs one =
      let p = differs (meaning_of s x) (meaning_of t y) in
      behind p (picture_items s.siz) (joined (tile_items s) 0 (tile_number s.siz)) None (none_picture one.siz)
      (joined_all p (tile_items s) (tile_number s.siz) (λ i inside.
      joined_all p (component_items (geometry s i)) (length s.siz.comps) (λ c lt. none_component i c inside lt one)))
