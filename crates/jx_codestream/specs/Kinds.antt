-- The kinds of segments that a header has once at most, PPM and PPT once for each index, the last three once for each component (T.800, Table A.2).
use Rattle.std.specs.Prelude.{◌≡◌, ◌⊎◌, ℕ, List}
use Rattle.jx_marker.specs.declared.Segment.{Segment}
use Rattle.jx_marker.specs.declared.Segment.TheVariants as segment
use Rattle.jx_marker.specs.declared.Cod.{Cod}
use Rattle.jx_marker.specs.declared.Quant.{Quant}
use Rattle.jx_marker.specs.declared.Shape.{Shape}
use Rattle.jx_marker.specs.declared.Progression.{Progression}

abbrev pub IsCod : Segment → Type 0
IsCod s = (cod : Cod) × (s ≡ segment.Cod cod)

abbrev pub IsQcd : Segment → Type 0
IsQcd s = (quant : Quant) × (s ≡ segment.Qcd quant)

abbrev pub IsPoc : Segment → Type 0
IsPoc s = (entries : List Progression) × (s ≡ segment.Poc entries)

abbrev pub IsCrg : Segment → Type 0
IsCrg s = (bytes : List ℕ) × (s ≡ segment.Crg bytes)

-- a PPM or a PPT of this index
abbrev pub IsPacked : ℕ → Segment → Type 0
IsPacked index s = (bytes : List ℕ) × ((s ≡ segment.Ppm index bytes) ⊎ (s ≡ segment.Ppt index bytes))

abbrev pub IsCoc : ℕ → Segment → Type 0
IsCoc comp s = (shape : Shape) × (s ≡ segment.Coc comp shape)

abbrev pub IsQcc : ℕ → Segment → Type 0
IsQcc comp s = (quant : Quant) × (s ≡ segment.Qcc comp quant)

abbrev pub IsRgn : ℕ → Segment → Type 0
IsRgn comp s = (shift : ℕ) × (s ≡ segment.Rgn comp shift)
