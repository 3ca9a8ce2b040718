-- Headers that say the same of coding, quantization and the region's shift, but for precincts and style, give a tile the same steps and
-- planes, and the same shapes with the precincts that are asked.
use Rattle.std.proofs.Common.{◌≡◌, ◌+◌, ◌*◌, ◌∙◌, ℕ, true, arith, List, [], ◌∷◌, map, length, refl, sym, ap, Option, Some, None}
use Rattle.std.specs.List.{range_with_len}
use Rattle.std.specs.Option.{option_or, option_map, is_some}
use Rattle.std.proofs.lemmas.Bool.{true≢false}
use Rattle.jx_base.specs.declared.names.Band.{Band}
use Rattle.jx_base.specs.declared.style.Style.{Style}
use Rattle.jx_marker.specs.declared.Segment.{Segment}
use Rattle.jx_marker.specs.declared.Siz.{Siz}
use Rattle.jx_marker.specs.declared.CompSize.{CompSize}
use Rattle.jx_marker.specs.declared.Shape.{Shape}
use Rattle.jx_marker.specs.declared.Quant.{Quant}
use Rattle.jx_geom.specs.declared.shape.CompShape.{CompShape}
use Rattle.jx_codestream.specs.Index.{gives}
use Rattle.jx_codestream.specs.Tiles.{in_slot}
use Rattle.jx_codestream.specs.Params.{chosen, shape_in, quant_in, shift_in, shape_of, quant_of, shift_of, has_too_few, shape_or, precincts_of, band_planes, header_has_too_few, header_planes, step_by, planes_by}
use Rattle.jx_codestream.specs.Shapes.{comp_shape, shapes_in, size_in}
use Rattle.jx_plan.specs.Headers.{comp_written, shape_written}
use Rattle.jx_codestream.proofs.BareLemmas.{any_same, flat_same, own_gives}

-- two segments, each there or not, that say the same, but for the precincts and the style that are asked
pub record AreAlike (ps : Option (List ℕ)) (st : Option Style) (o p : Option Segment) : Type 0 where
  pub some : is_some o ≡ is_some p
  pub shape : shape_in o ≡ option_map (shape_written ps st) (shape_in p)
  pub quant : quant_in o ≡ quant_in p
  pub shift : shift_in o ≡ shift_in p

alike_or : (ps : Option (List ℕ)) (st : Option Style) (a b c d : Option Segment) → AreAlike ps st a b → AreAlike ps st c d → AreAlike ps st (option_or a c) (option_or b d)
alike_or ps st None None c d h k = k
alike_or ps st None (Some t) c d h k = absurd (true≢false (sym h.some))
alike_or ps st (Some s) None c d h k = absurd (true≢false h.some)
alike_or ps st (Some s) (Some t) c d h k = h

-- so do two headers
abbrev pub HeadersAlike : Option (List ℕ) → Option Style → List Segment → List Segment → Type 0
HeadersAlike ps st xs ys = (slot : ℕ) → gives slot ≡ true → AreAlike ps st (in_slot slot xs) (in_slot slot ys)

map_both : (f g : ℕ → CompShape) (k : CompShape → CompShape) (xs : List ℕ) → ((x : ℕ) → f x ≡ k (g x)) → map f xs ≡ map k (map g xs)
map_both f g k [] h = refl
map_both f g k (x ∷ xs) h = rw (h x, map_both f g k xs h) refl

-- where neither is asked all is the same

pub none_asked : (o : Option Shape) → option_map (shape_written None None) o ≡ o
none_asked None = refl
none_asked (Some shape) = refl

pub none_changed : (xs : List CompShape) → map (comp_written None) xs ≡ xs
none_changed [] = refl
none_changed (x ∷ xs) = ap (λ (ys : List CompShape). x ∷ ys) (none_changed xs)

-- levels are never changed

few_kept : (ps : Option (List ℕ)) (st : Option Style) (q : Option Quant) (o : Option Shape) → has_too_few q (option_map (shape_written ps st) o) ≡ has_too_few q o
few_kept ps st None o = refl
few_kept ps st (Some quant) None = refl
few_kept ps st (Some quant) (Some shape) = refl

bands_kept : (ps : Option (List ℕ)) (st : Option Style) (q : Option Quant) (o : Option Shape) (shift : ℕ) → band_planes q (option_map (shape_written ps st) o) shift ≡ band_planes q o shift
bands_kept ps st None o shift = refl
bands_kept ps st (Some quant) None shift = refl
bands_kept ps st (Some quant) (Some shape) shift = refl

levels_kept : (ps : Option (List ℕ)) (st : Option Style) (o : Option Shape) → (shape_or (option_map (shape_written ps st) o)).levels ≡ (shape_or o).levels
levels_kept ps st None = refl
levels_kept ps st (Some shape) = refl

-- the shape of a component

-- there is a shape to be changed
abbrev pub IsThere : Option (List ℕ) → Option Shape → Type 0
IsThere None o = Unit {0}
IsThere (Some items) o = is_some o ≡ true

abbrev comp_of : CompSize → Shape → CompShape
comp_of size shape = record { dx = size.dx; dy = size.dy; levels = shape.levels; xcb = shape.xcb; ycb = shape.ycb; precincts = precincts_of shape.precincts }

comp_is : (ps : Option (List ℕ)) (st : Option Style) (size : CompSize) (o : Option Shape) → IsThere ps o
    → comp_of size (shape_or (option_map (shape_written ps st) o)) ≡ comp_written ps (comp_of size (shape_or o))
comp_is None st size None there = refl
comp_is None st size (Some shape) there = refl
comp_is (Some items) st size None there = absurd (true≢false (sym there))
comp_is (Some items) st size (Some shape) there = refl

module _ (ps : Option (List ℕ)) (st : Option Style) (own other main there : List Segment) (here : HeadersAlike ps st own other) (mains : HeadersAlike ps st main there) where
  chosen_alike : (slot default : ℕ) → gives slot ≡ true → gives default ≡ true → AreAlike ps st (chosen slot default own main) (chosen slot default other there)
  chosen_alike slot default a b =
      alike_or ps st (in_slot slot own) (in_slot slot other) _ _ (here slot a)
      (alike_or ps st (in_slot default own) (in_slot default other) _ _ (here default b)
      (alike_or ps st (in_slot slot main) (in_slot slot there) (in_slot default main) (in_slot default there) (mains slot a) (mains default b)))

  pub shape_same : (comp : ℕ) → shape_of own main comp ≡ option_map (shape_written ps st) (shape_of other there comp)
  shape_same comp = (chosen_alike (261 + 3 * comp) 1 (own_gives 261 comp (omega arith)) refl).shape

  pub quant_same : (comp : ℕ) → quant_of own main comp ≡ quant_of other there comp
  quant_same comp = (chosen_alike (262 + 3 * comp) 2 (own_gives 262 comp (omega arith)) refl).quant

  pub shift_same : (comp : ℕ) → shift_of own main comp ≡ shift_of other there comp
  shift_same comp =
      let g = own_gives 263 comp (omega arith) in
      (alike_or ps st (in_slot (263 + 3 * comp) own) (in_slot (263 + 3 * comp) other) (in_slot (263 + 3 * comp) main) (in_slot (263 + 3 * comp) there) (here (263 + 3 * comp) g) (mains (263 + 3 * comp) g)).shift

  few_at : (comp : ℕ) → has_too_few (quant_of own main comp) (shape_of own main comp) ≡ has_too_few (quant_of other there comp) (shape_of other there comp)
  few_at comp = rw (quant_same comp, shape_same comp) (few_kept ps st (quant_of other there comp) (shape_of other there comp))

  bands_at : (comp : ℕ)
      → band_planes (quant_of own main comp) (shape_of own main comp) (shift_of own main comp) ≡ band_planes (quant_of other there comp) (shape_of other there comp) (shift_of other there comp)
  bands_at comp = rw (quant_same comp, shape_same comp, shift_same comp) (bands_kept ps st (quant_of other there comp) (shape_of other there comp) (shift_of other there comp))

  pub too_few_same : (comps : ℕ) → header_has_too_few main comps own ≡ header_has_too_few there comps other
  too_few_same comps =
      any_same (λ (comp : ℕ). has_too_few (quant_of own main comp) (shape_of own main comp)) (λ (comp : ℕ). has_too_few (quant_of other there comp) (shape_of other there comp)) (range_with_len 0 comps)
      few_at

  pub bands_same : (comps : ℕ) → header_planes main comps own ≡ header_planes there comps other
  bands_same comps =
      flat_same (λ (comp : ℕ). band_planes (quant_of own main comp) (shape_of own main comp) (shift_of own main comp)) (λ (comp : ℕ). band_planes (quant_of other there comp) (shape_of other there comp) (shift_of other there comp)) (range_with_len 0 comps)
      bands_at

  level_same : (comp : ℕ) → (shape_or (shape_of own main comp)).levels ≡ (shape_or (shape_of other there comp)).levels
  level_same comp = ap (λ (o : Option Shape). (shape_or o).levels) (shape_same comp) ∙ levels_kept ps st (shape_of other there comp)

  pub step_same : (comp res : ℕ) (band : Band) → step_by own main comp res band ≡ step_by other there comp res band
  step_same comp res band = rw (quant_same comp, level_same comp) refl

  pub planes_same : (comp res : ℕ) (band : Band) → planes_by own main comp res band ≡ planes_by other there comp res band
  planes_same comp res band = rw (quant_same comp, level_same comp, shift_same comp) refl

  comp_shape_same : (siz tiz : Siz) → siz.comps ≡ tiz.comps → (comp : ℕ) → IsThere ps (shape_of other there comp)
      → comp_shape (record { siz = siz; main = main; own = own }) comp ≡ comp_written ps (comp_shape (record { siz = tiz; main = there; own = other }) comp)
  comp_shape_same siz tiz e comp some =
      ap (λ (o : Option Shape). comp_of (size_in siz comp) (shape_or o)) (shape_same comp)
      ∙ rw e (comp_is ps st (size_in tiz comp) (shape_of other there comp) some)

  pub shapes_same : (siz tiz : Siz) → siz.comps ≡ tiz.comps → ((comp : ℕ) → IsThere ps (shape_of other there comp))
      → shapes_in (record { siz = siz; main = main; own = own }) ≡ map (comp_written ps) (shapes_in (record { siz = tiz; main = there; own = other }))
  unfolding shapes_in
  shapes_same siz tiz e some =
      let f : ℕ → CompShape = comp_shape (record { siz = siz; main = main; own = own }) in
      let g : ℕ → CompShape = comp_shape (record { siz = tiz; main = there; own = other }) in
      map_both f g (comp_written ps) (range_with_len 0 (length siz.comps)) (λ comp. comp_shape_same siz tiz e comp (some comp))
      ∙ ap (λ (xs : List CompSize). map (comp_written ps) (map g (range_with_len 0 (length xs)))) e
