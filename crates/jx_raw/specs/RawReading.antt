-- What contracts see of a reader of raw bits, and how its registers stand for it.
use Rattle.std.specs.Prelude.{◌≡◌, ◌<◌, ◌≤◌, ℕ, zero, suc, Bool, true, List, [], ◌∷◌, ◌++◌, length, drop}
use Rattle.jx_coder_specs.specs.RawBits.{raw_width, raw_bits_after, bits_of}

-- the segment, and the bits that weren't read
pub record RawReading : Type 0 where
  pub bytes : List ℕ
  pub left : List Bool

-- the next bit, and 1 past the end
abbrev pub first_or_one : List Bool → Bool
first_or_one [] = true
first_or_one (bit ∷ bits) = bit

-- the bits left of the current byte, and those of the bytes from the place on
abbrev pub bits_left : List ℕ → ℕ → ℕ → ℕ → List Bool
bits_left bytes place current left = bits_of left current ++ raw_bits_after current (drop place bytes)

-- the byte before the place is the current one, of which at least one bit was read
abbrev pub IsAt : ℕ → List ℕ → ℕ → ℕ → ℕ → Type 0
IsAt before bytes zero current left = (current ≡ before) × (left ≡ 0)
IsAt before [] (suc place) current left = ⊥
IsAt before (byte ∷ rest) (suc zero) current left = (current ≡ byte) × (left < raw_width before)
IsAt before (byte ∷ rest) (suc (suc place)) current left = IsAt byte rest (suc place) current left

pub record IsReading (bytes : List ℕ) (place current left : ℕ) : Type 0 where
  pub here : IsAt 0 bytes place current left
  pub within : place ≤ length bytes
  pub room : left < 8
