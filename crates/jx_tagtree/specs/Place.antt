-- What is true of a reader's fields.
use Rattle.std.specs.Prelude.{◌≡◌, ℕ, ◌+◌, ◌-◌, ◌^◌, ◌<◌, ◌≤◌, Bool, List, [], ◌∷◌, ◌++◌, length, take, drop, slice_index, if◌then◌else◌, ◌==◌}
use Rattle.jx_tagtree.specs.Header.{bits_of, low_bits, room}
use Rattle.jx_tagtree.specs.declared.BitFault.TheVariants.{Ended}
use Rattle.jx_base.specs.Markers.{last_after}

-- how many bits the first n bytes have
abbrev pub count : List ℕ → ℕ → ℕ
count bytes n = length (bits_of (take n bytes)).bits

-- Of the first `used` bytes all bits are given but the low `left` of the last.
pub record Stands (bytes : List ℕ) (used last left : ℕ) : Type 0 where
  pub within : used ≤ length bytes
  pub is_last : last ≡ last_after 0 (take used bytes)
  pub clean : (bits_of (take used bytes)).fault ≡ Ended
  pub small : left < 8
  pub some_left : left ≤ count bytes used
  pub begun : 0 < used → count bytes (used - 1) + left < count bytes used
  pub are_left : drop (count bytes used - left) (bits_of (take used bytes)).bits ≡ low_bits left last

-- Of a writer's fields: the bytes written, the last of them, and a number of fewer bits than the next byte has room for.
pub record Fills (bytes : List ℕ) (last current filled : ℕ) : Type 0 where
  pub is_last : last ≡ last_after 0 bytes
  pub clean : (bits_of bytes).fault ≡ Ended
  pub are_bytes : (i : ℕ) → slice_index bytes i < 256
  pub short : filled < room last
  pub fits : current < 2 ^ filled

-- the bits that a writer was given
abbrev pub given : List ℕ → ℕ → ℕ → List Bool
given bytes current filled = (bits_of bytes).bits ++ low_bits filled current

-- bytes of which a last FF is followed by 00
abbrev pub closed : List ℕ → ℕ → List ℕ
closed bytes last = bytes ++ (if last == 255 then 0 ∷ [] else [])
