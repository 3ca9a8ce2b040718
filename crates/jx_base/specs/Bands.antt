-- The bands of a resolution in their order (ITU-T T.800, B.5).
use Rattle.std.specs.Prelude.{ℕ, ◌==◌, List, [], ◌∷◌, if◌then◌else◌}
use Rattle.jx_base.specs.declared.names.Band.{Band}
use Rattle.jx_base.specs.declared.names.Band.TheVariants.{LL, HL, LH, HH}

abbrev pub bands_at : ℕ → List Band
bands_at r = if r == 0 then LL ∷ [] else HL ∷ LH ∷ HH ∷ []
