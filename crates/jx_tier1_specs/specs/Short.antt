-- Segments whose lengths are counted in 32 bits.
use Rattle.jx_tier1_specs.specs.Cells.{Cells}
use Rattle.jx_tier1_specs.specs.Reading.{Reading, Decoding}
use Rattle.std.specs.Prelude.{ℕ, ◌^◌, ◌<◌, List, All, length}

abbrev pub AreShort : List (List ℕ) → Type 0
AreShort segments = All (λ (s : List ℕ). length s < 2 ^ 32) segments

-- after a pass's own decisions
abbrev pub with_bits : Decoding → Cells × Reading → Decoding
with_bits d bits = record d { cells = bits.0; reading = bits.1 }
