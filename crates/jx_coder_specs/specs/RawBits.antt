-- Raw bits of a segment that bypasses the arithmetic coder: ITU-T T.800, Annex D.6.
use Rattle.std.specs.Prelude.{ℕ, zero, suc, ◌+◌, ◌-◌, ◌*◌, ◌/◌, ◌%◌, ◌^◌, ◌==◌, Bool, true, List, [], ◌∷◌, ◌++◌, length, take, drop, replicate, slice_index_or, if◌then◌else◌}

-- how many bits a byte has: seven after FF, else eight
abbrev pub raw_width : ℕ → ℕ
raw_width before = if before == 255 then 7 else 8

-- the low bits of a number, the most significant first
abbrev pub bits_of : ℕ → ℕ → List Bool
bits_of zero n = []
bits_of (suc width) n = (n / 2 ^ width % 2 == 1) ∷ bits_of width n

-- the bits of bytes that stand after a byte
abbrev pub raw_bits_after : ℕ → List ℕ → List Bool
raw_bits_after before [] = []
raw_bits_after before (byte ∷ rest) = bits_of (raw_width before) byte ++ raw_bits_after byte rest

abbrev pub raw_bits : List ℕ → List Bool
raw_bits segment = raw_bits_after 0 segment

-- the first n bits of a segment, and 1 past its end
abbrev pub raw_read : List ℕ → ℕ → List Bool
raw_read segment n = take n (raw_bits segment ++ replicate n true)

-- how many of the bytes that stand after a byte have one of the first n bits
abbrev pub raw_looked_after : ℕ → List ℕ → ℕ → ℕ
raw_looked_after before [] n = 0
raw_looked_after before (byte ∷ rest) n = if n == 0 then 0 else 1 + raw_looked_after byte rest (n - raw_width before)

-- how many bytes of a segment are looked at for its first n bits
abbrev pub raw_looked : List ℕ → ℕ → ℕ
raw_looked segment n = raw_looked_after 0 segment n

-- the same with so many places behind the first bytes, which are looked at
abbrev pub looked_from : List ℕ → ℕ → ℕ → ℕ
looked_from segment given places = given + raw_looked_after (slice_index_or (0 ∷ segment) given 0) (drop given segment) places

-- the number that bits spell, the most significant first
abbrev pub number_of : List Bool → ℕ
number_of [] = 0
number_of (bit ∷ bits) = (if bit then 2 ^ length bits else 0) + number_of bits

-- a byte of some bits, filled with zeros
abbrev pub byte_of : ℕ → List Bool → ℕ
byte_of width bits = number_of bits * 2 ^ (width - length bits)

-- the bytes of bits that stand after a byte, of which there are fewer than `most`; a last FF is followed by 00
abbrev pub raw_write_after : ℕ → ℕ → List Bool → List ℕ
raw_write_after zero before bits = []
raw_write_after (suc most) before [] = if before == 255 then 0 ∷ [] else []
raw_write_after (suc most) before (bit ∷ bits) =
    let width = raw_width before in
    let byte = byte_of width (take width (bit ∷ bits)) in
    byte ∷ raw_write_after most byte (drop width (bit ∷ bits))

-- the segment of some bits
abbrev pub raw_write : List Bool → List ℕ
raw_write bits = raw_write_after (suc (length bits)) 0 bits
