-- How the registers of a writer of raw bits stand for the bits written.
use Rattle.std.specs.Prelude.{◌≡◌, ◌<◌, ℕ, ◌^◌, Bool, List, [], ◌∷◌, ◌++◌}
use Rattle.jx_coder_specs.specs.RawBits.{raw_width, raw_bits, bits_of}
use Rattle.jx_base.specs.Markers.{last_after}

-- each byte has no more bits than its place allows
abbrev pub AreStuffed : ℕ → List ℕ → Type 0
AreStuffed before [] = Unit {0}
AreStuffed before (byte ∷ rest) = (byte < 2 ^ raw_width before) × AreStuffed byte rest

-- the bits of whole bytes, and those of the byte that is begun
abbrev pub bits_written : List ℕ → ℕ → ℕ → List Bool
bits_written bytes partial count = raw_bits bytes ++ bits_of count partial

pub record IsBegun (bytes : List ℕ) (partial count width : ℕ) : Type 0 where
  pub width_is : width ≡ raw_width (last_after 0 bytes)
  pub room : count < width
  pub fits : partial < 2 ^ count
  pub stuffed : AreStuffed 0 bytes
