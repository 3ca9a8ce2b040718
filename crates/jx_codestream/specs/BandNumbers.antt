-- The bands of a component by their numbers: those of each resolution in their order, from resolution 0 up (T.800, B.5).
use Rattle.std.specs.Prelude.{ℕ, ◌+◌, List, map}
use Rattle.jx_base.specs.Bands.{bands_at}
use Rattle.jx_base.specs.Joined.{joined}
use Rattle.jx_codestream.specs.Params.{number_of}

-- those of a resolution
abbrev pub numbers_at : ℕ → List ℕ
numbers_at r = map (number_of r) (bands_at r)

-- those of all resolutions
abbrev pub all_numbers : ℕ → List ℕ
all_numbers levels = joined numbers_at 0 (levels + 1)
