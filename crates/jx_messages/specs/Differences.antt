-- The first value in which two codestreams differ, and what both have there, in words.
use Rattle.std.specs.Prelude.{ℕ, ◌+◌, ◌%◌, ◌==◌, nat_lt, Bool, ◌++◌, codes, if◌then◌else◌}
use Rattle.std.specs.Fmt.{decimal}
use Rattle.jx_base.specs.declared.names.Band.{Band}
use Rattle.jx_base.specs.declared.names.Band.TheVariants as band
use Rattle.jx_same.specs.declared.answer.Difference.{Difference}
use Rattle.jx_same.specs.declared.answer.Field.{Field}
use Rattle.jx_same.specs.declared.answer.Field.TheVariants as field
use Rattle.jx_same.specs.declared.answer.Spot.{Spot}
use Rattle.jx_same.specs.declared.answer.Value.{Value}
use Rattle.jx_same.specs.declared.answer.Value.TheVariants as value
use Rattle.jx_messages.specs.Text.{Text}

abbrev pub field_words : Field → Text
field_words field.Canvas = codes "the picture's size, its offset or its tiles"
field_words field.Components = codes "the number of components"
field_words field.Depth = codes "the samples' depth or sign"
field_words field.Sampling = codes "the subsampling"
field_words field.Levels = codes "the decomposition levels"
field_words field.Wavelet = codes "the wavelet"
field_words field.Transform = codes "the component transform"
field_words field.Quant = codes "the style of quantization"
field_words field.Guard = codes "the guard bits"
field_words field.Shift = codes "the shift of a region of interest"
field_words field.Exponent = codes "the exponent of the step"
field_words field.Mantissa = codes "the mantissa of the step"
field_words field.Coef = codes "the coefficient"

-- where T.800 speaks of it
abbrev pub field_section : Field → Text
field_section field.Canvas = codes "B.2"
field_section field.Components = codes "A.5.1"
field_section field.Depth = codes "A.5.1"
field_section field.Sampling = codes "A.5.1"
field_section field.Levels = codes "A.6.1"
field_section field.Wavelet = codes "A.6.1"
field_section field.Transform = codes "A.6.1"
field_section field.Quant = codes "A.6.4"
field_section field.Guard = codes "A.6.4"
field_section field.Shift = codes "A.6.3"
field_section field.Exponent = codes "E.1"
field_section field.Mantissa = codes "E.1"
field_section field.Coef = codes "D"

abbrev pub band_words : Band → Text
band_words band.LL = codes "LL"
band_words band.HL = codes "HL"
band_words band.LH = codes "LH"
band_words band.HH = codes "HH"

-- of a component, of a component in a tile, of a band, and in a band
abbrev pub component_words : Spot → Text
component_words s = codes " of component " ++ decimal s.comp

abbrev pub tile_words : Spot → Text
tile_words s = codes " of component " ++ (decimal s.comp ++ (codes " in tile " ++ decimal s.tile))

abbrev pub step_words : Spot → Text
step_words s =
    codes " of band " ++ (band_words s.band ++ (codes ",\n    resolution " ++ (decimal s.res ++ (codes ", component " ++ (decimal s.comp ++ (codes ", tile " ++ decimal s.tile))))))

abbrev pub column_words : Spot → Text
column_words s = codes " in column " ++ (decimal s.x ++ (codes ", row " ++ (decimal s.y ++ step_words s)))

-- where a value stands, as far as its field has a place
abbrev pub place_words : Field → Spot → Text
place_words field.Canvas s = codes ""
place_words field.Components s = codes ""
place_words field.Depth s = component_words s
place_words field.Sampling s = component_words s
place_words field.Levels s = tile_words s
place_words field.Wavelet s = tile_words s
place_words field.Transform s = tile_words s
place_words field.Quant s = tile_words s
place_words field.Guard s = tile_words s
place_words field.Shift s = tile_words s
place_words field.Exponent s = step_words s
place_words field.Mantissa s = step_words s
place_words field.Coef s = column_words s

-- ---- a value, by its field
-- Ssiz (Table A.11): one less than the bits, and 128 where samples have a sign
abbrev pub depth_words : ℕ → Text
depth_words ssiz = decimal (ssiz % 128 + 1) ++ (if nat_lt ssiz 128 then codes " bits without a sign" else codes " bits with a sign")

-- Table A.20
abbrev pub wavelet_words : ℕ → Text
wavelet_words n = if n == 0 then codes "9-7" else codes "5-3"

-- Table A.17
abbrev pub transform_words : ℕ → Text
transform_words n = if n == 0 then codes "none" else codes "one of the first three"

-- Table A.28
abbrev pub quant_words : ℕ → Text
quant_words n = if n == 0 then codes "none" else (if n == 1 then codes "derived steps" else codes "expounded steps")

abbrev pub number_words : Field → ℕ → Text
number_words field.Depth n = depth_words n
number_words field.Wavelet n = wavelet_words n
number_words field.Transform n = transform_words n
number_words field.Quant n = quant_words n
number_words _ n = decimal n

abbrev pub factor_words : ℕ → ℕ → Text
factor_words dx dy = decimal dx ++ (codes " by " ++ decimal dy)

-- the picture's and the tiles' places on the reference grid
abbrev pub picture_words : ℕ → ℕ → ℕ → ℕ → Text
picture_words x1 y1 x0 y0 = decimal x0 ++ (codes "," ++ (decimal y0 ++ (codes " to " ++ (decimal x1 ++ (codes "," ++ decimal y1)))))

abbrev pub tiles_words : ℕ → ℕ → ℕ → ℕ → Text
tiles_words tw th tx ty = decimal tw ++ (codes " by " ++ (decimal th ++ (codes " from " ++ (decimal tx ++ (codes "," ++ decimal ty)))))

abbrev pub canvas_words : ℕ → ℕ → ℕ → ℕ → ℕ → ℕ → ℕ → ℕ → Text
canvas_words x1 y1 x0 y0 tw th tx ty = picture_words x1 y1 x0 y0 ++ (codes ", tiles of " ++ tiles_words tw th tx ty)

abbrev pub coef_words : Bool → ℕ → ℕ → Text
coef_words negative bits planes = (if negative then codes "-" else codes "") ++ (decimal bits ++ (codes " in " ++ (decimal planes ++ codes " planes")))

abbrev pub value_words : Field → Value → Text
value_words f (value.Canvas x1 y1 x0 y0 tw th tx ty) = canvas_words x1 y1 x0 y0 tw th tx ty
value_words f (value.Factors dx dy) = factor_words dx dy
value_words f (value.Coef negative bits planes) = coef_words negative bits planes
value_words f (value.Number n) = number_words f n

-- what the first file has, and what the second has
abbrev pub values_words : Difference → Text
values_words d = codes "the first has " ++ (value_words d.spot.field d.first ++ (codes ",\n    the second has " ++ value_words d.spot.field d.second))

-- two files that aren't the same
abbrev pub spot_words : Spot → Text
spot_words s = field_words s.field ++ (place_words s.field s ++ (codes " (T.800 " ++ (field_section s.field ++ codes ")")))

abbrev pub differs_sentence : Text → Text → Difference → Text
differs_sentence first second d =
    codes "jx: " ++ (first ++ (codes " and " ++ (second ++ (codes " aren't the same; the first value that differs is\n    " ++ (spot_words d.spot ++ (codes ":\n    " ++ (values_words d ++ codes "\n")))))))
