-- The markers' second bytes, the first being FF (ITU-T T.800, Table A.2), and the two that stand in tile data (A.8).
use Rattle.std.specs.Prelude.{ℕ, List, [], ◌∷◌}
use Rattle.byteorder.specs.Endian.{big_bytes}

-- start of codestream
abbrev pub SOC : ℕ
SOC = 0x4F

-- image and tile sizes
abbrev pub SIZ : ℕ
SIZ = 0x51

-- coding style default
abbrev pub COD : ℕ
COD = 0x52

-- coding style of a component
abbrev pub COC : ℕ
COC = 0x53

-- tile-part lengths
abbrev pub TLM : ℕ
TLM = 0x55

-- packet lengths in the main header
abbrev pub PLM : ℕ
PLM = 0x57

-- packet lengths in a tile-part header
abbrev pub PLT : ℕ
PLT = 0x58

-- quantization default
abbrev pub QCD : ℕ
QCD = 0x5C

-- quantization of a component
abbrev pub QCC : ℕ
QCC = 0x5D

-- region of interest
abbrev pub RGN : ℕ
RGN = 0x5E

-- progression order changes
abbrev pub POC : ℕ
POC = 0x5F

-- packed packet headers in the main header
abbrev pub PPM : ℕ
PPM = 0x60

-- packed packet headers in a tile-part header
abbrev pub PPT : ℕ
PPT = 0x61

-- component registration
abbrev pub CRG : ℕ
CRG = 0x63

-- comment
abbrev pub COM : ℕ
COM = 0x64

-- start of tile-part
abbrev pub SOT : ℕ
SOT = 0x90

-- start of packet
abbrev pub SOP : ℕ
SOP = 0x91

-- end of packet header
abbrev pub EPH : ℕ
EPH = 0x92

-- start of data
abbrev pub SOD : ℕ
SOD = 0x93

-- end of codestream
abbrev pub EOC : ℕ
EOC = 0xD9

-- A.8.1: the SOP segment of a number, whose length is 4
abbrev pub sop_spelling : ℕ → List ℕ
sop_spelling number = 0xFF ∷ SOP ∷ 0 ∷ 4 ∷ big_bytes 2 number

-- A.8.2: the EPH marker
abbrev pub eph_spelling : List ℕ
eph_spelling = 0xFF ∷ EPH ∷ []
