-- How two files that aren't the same are told of: the number with which the program ends, and the line.
use Rattle.std.specs.Prelude.{ℕ, List, ◌++◌, codes}
use Rattle.std.specs.Fmt.{decimal}
use Rattle.jx_base.specs.declared.names.Band.{Band}
use Rattle.jx_base.specs.declared.names.Band.TheVariants as band
use Rattle.jx_same.specs.declared.answer.Field.{Field}
use Rattle.jx_same.specs.declared.answer.Field.TheVariants as field
use Rattle.jx_same.specs.declared.answer.Spot.{Spot}
use Rattle.jx_transcode.specs.declared.status.Unlike.{Unlike}
use Rattle.jx_transcode.specs.declared.status.Unlike.TheVariants as unlike

abbrev pub unlike_number : Unlike → ℕ
unlike_number (unlike.Differs difference) = 11
unlike_number (unlike.SecondRule number place) = 12
unlike_number (unlike.SecondLimit number found) = 13

-- a field's name in small letters
abbrev pub field_name : Field → List ℕ
field_name field.Canvas = codes "canvas"
field_name field.Components = codes "components"
field_name field.Depth = codes "depth"
field_name field.Sampling = codes "sampling"
field_name field.Levels = codes "levels"
field_name field.Wavelet = codes "wavelet"
field_name field.Transform = codes "transform"
field_name field.Quant = codes "quant"
field_name field.Guard = codes "guard"
field_name field.Shift = codes "shift"
field_name field.Exponent = codes "exponent"
field_name field.Mantissa = codes "mantissa"
field_name field.Coef = codes "coef"

-- T.800, B.5
abbrev pub band_name : Band → List ℕ
band_name band.LL = codes "LL"
band_name band.HL = codes "HL"
band_name band.LH = codes "LH"
band_name band.HH = codes "HH"

-- the band that a spot names, and the place in it
abbrev pub place_line : Spot → List ℕ
place_line s = band_name s.band ++ (codes " " ++ (decimal s.x ++ (codes " " ++ (decimal s.y ++ codes "\n"))))

abbrev pub spot_line : Spot → List ℕ
spot_line s = decimal s.tile ++ (codes " " ++ (decimal s.comp ++ (codes " " ++ (decimal s.res ++ (codes " " ++ place_line s)))))

abbrev pub unlike_line : Unlike → List ℕ
unlike_line (unlike.Differs difference) = codes "differs: " ++ (field_name difference.spot.field ++ (codes " at " ++ spot_line difference.spot))
unlike_line (unlike.SecondRule number place) = codes "second: rule " ++ (decimal number ++ (codes " at " ++ (decimal place ++ codes "\n")))
unlike_line (unlike.SecondLimit number found) = codes "second: limit " ++ (decimal number ++ (codes ": " ++ (decimal found ++ codes "\n")))
