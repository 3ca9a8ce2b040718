-- The numbers of the rules that make an input faulty, as the program prints them.
use Rattle.std.specs.Prelude.{ℕ}

-- fewer than two bytes are left for a marker or its length, or the length is too short or runs past the file (A.1.1, A.4.2)
abbrev pub LENGTH : ℕ
LENGTH = 1

-- two bytes are no marker of a codestream, or are SOP or EPH (Table A.2, A.8)
abbrev pub MARKER : ℕ
MARKER = 2

-- the length of SIZ isn't that of its components (A.5.1)
abbrev pub SIZ_LENGTH : ℕ
SIZ_LENGTH = 3

-- SIZ has a number of components, a depth, a sampling or a canvas that can't be (Tables A.9, A.11, B.2, B.3)
abbrev pub SIZ_FIELDS : ℕ
SIZ_FIELDS = 4

-- SIZ asks for Part 2 or Part 15 (Table A.10)
abbrev pub CAPABILITIES : ℕ
CAPABILITIES = 5

-- COD or COC has another length than its fields, or a field out of its range (A.6.1, A.6.2)
abbrev pub CODING : ℕ
CODING = 6

-- a code-block style has bit 6 or 7 (Table A.19)
abbrev pub STYLE : ℕ
STYLE = 7

-- a precinct exponent is 0 above resolution 0 (Table A.21)
abbrev pub PRECINCTS : ℕ
PRECINCTS = 8

-- QCD or QCC has a style over 2, no whole entry or half an entry, or too few for a tile's bands (A.6.4, A.6.5)
abbrev pub QUANTIZATION : ℕ
QUANTIZATION = 9

-- RGN has another length than its fields, or a style that isn't 0 (A.6.3)
abbrev pub REGION : ℕ
REGION = 10

-- POC isn't whole entries, or one of them is out of range (A.6.6)
abbrev pub PROGRESSIONS : ℕ
PROGRESSIONS = 11

-- a component's index isn't below the number of components (A.6.2, A.6.3, A.6.5)
abbrev pub COMPONENT : ℕ
COMPONENT = 12

-- PLT, PLM, TLM, PPM or PPT is too short (A.7)
abbrev pub LENGTH_LISTS : ℕ
LENGTH_LISTS = 13

-- a tile-part's header has a PPT, where the main header has a PPM (A.7.5)
abbrev pub PACKED_HEADERS : ℕ
PACKED_HEADERS = 14

-- the file doesn't begin with SOC (A.4.1)
abbrev pub NO_SOC : ℕ
NO_SOC = 15

-- SIZ doesn't follow SOC (A.3)
abbrev pub NO_SIZ : ℕ
NO_SIZ = 16

-- the main header has no COD or no QCD (A.3)
abbrev pub NO_DEFAULTS : ℕ
NO_DEFAULTS = 17

-- a header has a second segment of a kind, or of a kind and component, that it has once at most (A.3)
abbrev pub TWICE : ℕ
TWICE = 18

-- a marker has no place in this header (A.3, Table A.2)
abbrev pub MISPLACED : ℕ
MISPLACED = 19

-- a tile-part is of a tile that isn't there (A.4.2)
abbrev pub NO_TILE : ℕ
NO_TILE = 20

-- a tile-part is out of turn among those of its tile (A.4.2)
abbrev pub PART_NUMBER : ℕ
PART_NUMBER = 21

-- a tile-part's length can't be (A.4.2)
abbrev pub PART_LENGTH : ℕ
PART_LENGTH = 22

-- neither SOT nor EOC stands where a tile-part ends (A.4.2, A.4.4)
abbrev pub PART_END : ℕ
PART_END = 23

-- a tile has no tile-part (A.4.2)
abbrev pub NO_PART : ℕ
NO_PART = 24

-- a packet of a tile is in no progression (A.6.6, B.12)
abbrev pub UNCOVERED : ℕ
UNCOVERED = 25

-- a packet header ends too early, has a stuffed bit 1, or a length of 2^32 or more (B.10)
abbrev pub PACKET_HEADER : ℕ
PACKET_HEADER = 26

-- a code-block's zero planes reach its band's planes, or it has too many passes (B.10.5, B.10.6)
abbrev pub PLANES : ℕ
PLANES = 27

-- a packet's lengths pass the end of its tile-part (B.10.7)
abbrev pub PACKET_LENGTH : ℕ
PACKET_LENGTH = 28

-- the length of an SOP segment isn't 4, or its number isn't the packet's (A.8.1)
abbrev pub SOP_SEGMENT : ℕ
SOP_SEGMENT = 29

-- in a code-block's bytes FF stands before a byte above 8F, or at the end of a piece (D.4)
abbrev pub BLOCK_BYTES : ℕ
BLOCK_BYTES = 30

-- a byte of a tile is left after its last packet (B.9)
abbrev pub LEFT_OVER : ℕ
LEFT_OVER = 31

-- the joined data of PPM isn't a number and so many bytes for each tile-part (A.7.4)
abbrev pub PACKED_SHARES : ℕ
PACKED_SHARES = 37
