-- The values that a codestream means, one by one in the order in which two codestreams are compared: those of the picture and of its
-- components (SIZ, A.5.1), then tile by tile and component by component how it is transformed and quantized (A.6), then band by band
-- its step (E.1) and its coefficients, code-block by code-block (B.7), those of a block row by row (ITU-T T.800).
use Rattle.std.specs.Prelude.{ℕ, ◌+◌, ◌==◌, Bool, ◌&&◌, not, List, [], ◌∷◌, ◌++◌, length, map, find, Option, None, Some, if◌then◌else◌}
use Rattle.std.specs.List.{flat_map}
use Rattle.jx_base.specs.declared.names.Band.{Band}
use Rattle.jx_base.specs.declared.names.Band.TheVariants.{LL}
use Rattle.jx_base.specs.declared.names.Rect.{Rect}
use Rattle.jx_base.specs.Bands.{bands_at}
use Rattle.jx_base.specs.Joined.{joined}
use Rattle.jx_base.specs.Places.{column_at, row_at, size_of}
use Rattle.jx_tier1_specs.specs.declared.coef.Coef.{Coef}
use Rattle.jx_tier1_specs.specs.Cells.{zero_coef}
use Rattle.jx_geom.specs.Geometry.{Geometry, blocks_in, rect_of_tile, shape_of}
use Rattle.jx_geom.specs.Rects.{block_rect}
use Rattle.jx_marker.specs.declared.CompSize.{CompSize}
use Rattle.jx_marker.specs.declared.Siz.{Siz}
use Rattle.jx_codestream.specs.declared.Stream.{Stream}
use Rattle.jx_codestream.specs.First.{tile_number}
use Rattle.jx_codestream.specs.Shapes.{geometry, size_in}
use Rattle.jx_plan.specs.Meaning.{Component, Meaning, Place}
use Rattle.jx_same.specs.declared.answer.Answer.{Answer}
use Rattle.jx_same.specs.declared.answer.Answer.TheVariants.{Differs, Same}
use Rattle.jx_same.specs.declared.answer.Difference.{Difference}
use Rattle.jx_same.specs.declared.answer.Field.{Field}
use Rattle.jx_same.specs.declared.answer.Field.TheVariants as field
use Rattle.jx_same.specs.declared.answer.Spot.{Spot}
use Rattle.jx_same.specs.declared.answer.Value.{Value}
use Rattle.jx_same.specs.declared.answer.Value.TheVariants as value

-- ---- where a value stands: a spot has 0 and LL for what its field lacks
-- of the picture, that of its first component
abbrev pub spot_of_component : ℕ → ℕ → Field → Spot
spot_of_component t c f = record { field = f; tile = t; comp = c; res = 0; band = LL; x = 0; y = 0 }

abbrev pub spot_of_band : ℕ → ℕ → ℕ → Band → Field → Spot
spot_of_band t c r b f = record { field = f; tile = t; comp = c; res = r; band = b; x = 0; y = 0 }

-- the coefficient of a number in a rect of places of the band
abbrev pub spot_of_coef : ℕ → ℕ → ℕ → Band → Rect → ℕ → Spot
spot_of_coef t c r b rect n = record { field = field.Coef; tile = t; comp = c; res = r; band = b; x = column_at rect n; y = row_at rect n }

abbrev pub place_of : Spot → Place
place_of s = record { tile = s.tile; comp = s.comp; res = s.res; band = s.band; x = s.x; y = s.y }

-- ---- the values of two meanings at a spot agree
abbrev pub same_sign : Bool → Bool → Bool
same_sign a b = if a then b else not b

-- sign, magnitude bits and decoded planes
abbrev pub same_coef : Coef → Coef → Bool
same_coef a b = same_sign a.negative b.negative && (a.bits == b.bits && a.planes == b.planes)

-- a place that a meaning lacks has a positive 0 without decoded planes
abbrev pub coef_or : Option Coef → Coef
coef_or None = zero_coef
coef_or (Some c) = c

-- the picture and its tiles on the reference grid (B.2, B.3)
abbrev pub same_canvas : Siz → Siz → Bool
same_canvas a b =
    ((a.x1 == b.x1 && a.y1 == b.y1) && (a.x0 == b.x0 && a.y0 == b.y0)) && ((a.tw == b.tw && a.th == b.th) && (a.tx == b.tx && a.ty == b.ty))

abbrev pub same_sampling : CompSize → CompSize → Bool
same_sampling a b = a.dx == b.dx && a.dy == b.dy

abbrev pub component_at : Meaning → Spot → Component
component_at m s = m.component s.tile s.comp

abbrev pub step_at : Meaning → Spot → ℕ × ℕ
step_at m s = m.step s.tile s.comp s.res s.band

abbrev pub coef_at_spot : Meaning → Spot → Coef
coef_at_spot m s = coef_or (m.sample (place_of s))

abbrev pub agree : Field → Meaning → Meaning → Spot → Bool
agree field.Canvas a b s = same_canvas a.siz b.siz
agree field.Components a b s = length a.siz.comps == length b.siz.comps
agree field.Depth a b s = (size_in a.siz s.comp).ssiz == (size_in b.siz s.comp).ssiz
agree field.Sampling a b s = same_sampling (size_in a.siz s.comp) (size_in b.siz s.comp)
agree field.Levels a b s = (component_at a s).levels == (component_at b s).levels
agree field.Wavelet a b s = (component_at a s).wavelet == (component_at b s).wavelet
agree field.Transform a b s = (component_at a s).transform == (component_at b s).transform
agree field.Quant a b s = (component_at a s).quant == (component_at b s).quant
agree field.Guard a b s = (component_at a s).guard == (component_at b s).guard
agree field.Shift a b s = (component_at a s).shift == (component_at b s).shift
agree field.Exponent a b s = (step_at a s).0 == (step_at b s).0
agree field.Mantissa a b s = (step_at a s).1 == (step_at b s).1
agree field.Coef a b s = same_coef (coef_at_spot a s) (coef_at_spot b s)

abbrev pub differs : Meaning → Meaning → Spot → Bool
differs a b s = not (agree s.field a b s)

-- ---- the spots in their order: those of a codestream's headers, and of its code-blocks
abbrev pub picture_fields : List Field
picture_fields = field.Canvas ∷ field.Components ∷ []

abbrev pub size_fields : List Field
size_fields = field.Depth ∷ field.Sampling ∷ []

abbrev pub coding_fields : List Field
coding_fields = field.Levels ∷ field.Wavelet ∷ field.Transform ∷ field.Quant ∷ field.Guard ∷ field.Shift ∷ []

abbrev pub step_fields : List Field
step_fields = field.Exponent ∷ field.Mantissa ∷ []

abbrev pub size_items : ℕ → List Spot
size_items c = map (spot_of_component 0 c) size_fields

abbrev pub picture_items : Siz → List Spot
picture_items siz = map (spot_of_component 0 0) picture_fields ++ joined size_items 0 (length siz.comps)

abbrev pub coding_items : ℕ → ℕ → List Spot
coding_items t c = map (spot_of_component t c) coding_fields

-- the coefficients of a block, row by row from above, each from the left
abbrev pub coef_item : ℕ → ℕ → ℕ → Band → Rect → ℕ → List Spot
coef_item t c r b rect n = spot_of_coef t c r b rect n ∷ []

abbrev pub coef_items : ℕ → ℕ → ℕ → Band → Rect → List Spot
coef_items t c r b rect = joined (coef_item t c r b rect) 0 (size_of rect)

abbrev pub rect_in : Geometry → ℕ → ℕ → Band → ℕ → Rect
rect_in g c r b i = block_rect (rect_of_tile g) (shape_of g c) r b i

abbrev pub block_items : Geometry → ℕ → ℕ → Band → ℕ → List Spot
block_items g c r b i = coef_items g.tile c r b (rect_in g c r b i)

abbrev pub step_items : ℕ → ℕ → ℕ → Band → List Spot
step_items t c r b = map (spot_of_band t c r b) step_fields

abbrev pub band_items : Geometry → ℕ → ℕ → Band → List Spot
band_items g c r b = step_items g.tile c r b ++ joined (block_items g c r b) 0 (size_of (blocks_in g c r b))

abbrev pub resolution_items : Geometry → ℕ → ℕ → List Spot
resolution_items g c r = flat_map (band_items g c r) (bands_at r)

abbrev pub component_items : Geometry → ℕ → List Spot
component_items g c = coding_items g.tile c ++ joined (resolution_items g c) 0 ((shape_of g c).levels + 1)

unfoldable pub tile_items : Stream → ℕ → List Spot
tile_items s t = joined (component_items (geometry s t)) 0 (length s.siz.comps)

unfoldable pub items_of : Stream → List Spot
items_of s = picture_items s.siz ++ joined (tile_items s) 0 (tile_number s.siz)

-- ---- what a meaning says at a spot
abbrev pub canvas_value : Siz → Value
canvas_value z = value.Canvas z.x1 z.y1 z.x0 z.y0 z.tw z.th z.tx z.ty

abbrev pub factors_value : CompSize → Value
factors_value size = value.Factors size.dx size.dy

abbrev pub coef_value : Coef → Value
coef_value c = value.Coef c.negative c.bits c.planes

abbrev pub value_at : Field → Meaning → Spot → Value
value_at field.Canvas m s = canvas_value m.siz
value_at field.Components m s = value.Number (length m.siz.comps)
value_at field.Depth m s = value.Number (size_in m.siz s.comp).ssiz
value_at field.Sampling m s = factors_value (size_in m.siz s.comp)
value_at field.Levels m s = value.Number (component_at m s).levels
value_at field.Wavelet m s = value.Number (component_at m s).wavelet
value_at field.Transform m s = value.Number (component_at m s).transform
value_at field.Quant m s = value.Number (component_at m s).quant
value_at field.Guard m s = value.Number (component_at m s).guard
value_at field.Shift m s = value.Number (component_at m s).shift
value_at field.Exponent m s = value.Number (step_at m s).0
value_at field.Mantissa m s = value.Number (step_at m s).1
value_at field.Coef m s = coef_value (coef_at_spot m s)

abbrev pub difference_at : Meaning → Meaning → Spot → Difference
difference_at a b s = record { spot = s; first = value_at s.field a s; second = value_at s.field b s }

-- ---- the answer: the first of these values that differs, as both have it
abbrev pub answer_at : Meaning → Meaning → Option Spot → Answer
answer_at a b None = Same
answer_at a b (Some s) = Differs (difference_at a b s)

-- of two meanings, in the order of a stream
abbrev pub answer_of : Stream → Meaning → Meaning → Answer
answer_of s a b = answer_at a b (find (differs a b) (items_of s))
