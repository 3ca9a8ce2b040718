-- Headers that can't be read (ITU-T T.800, B.10.1 to B.10.7): a bit that a header asks for is missing, since the bytes end
-- or a stuffed bit is 1; or a length is 2^32 or more. The bits of bytes are those up to their end or to a stuffed 1
-- (`bits_of`), so bits that end before a header does are those of both; `StuffedAt` tells the two apart.
use Rattle.std.specs.Prelude.{◌≡◌, ℕ, ◌+◌, ◌^◌, ◌<◌, ◌≤◌, Bool, true, List, [], ◌∷◌, ◌++◌, length, replicate, take, slice_index, Err, ◌⊎◌}
use Rattle.jx_tagtree.specs.declared.BitFault.{BitFault}
use Rattle.jx_tagtree.specs.declared.BitFault.TheVariants.{Ended}
use Rattle.jx_tagtree.specs.Header.{low_bits, bits_after, bits_of, end_after}
use Rattle.jx_packet_header.specs.declared.HeaderPart.{HeaderPart}
use Rattle.jx_packet_header.specs.declared.known.Known.{Known}
use Rattle.jx_packet_header.specs.Words.{IsCount, pass_word, raise_word}
use Rattle.jx_packet_header.specs.Parts.{cut, width, AreHeaderParts, length_bits}
use Rattle.jx_packet_header.specs.Packet.{Cells, State, Values, Agree, Entry, block_at, first_bits, IsInclusion, zero_bits, zero_planes, most_passes, blocks_bits, blocks_after, AreEntries, BandStands, Header, header_bits, IsToldOf, IsPacket}
use Rattle.jx_base.specs.Markers.{last_after}

-- B.10.1: why bits end before the bytes do: n bytes give them all, the last of these is FF, and the bit that is stuffed into the
-- byte after it is 1.
pub record StuffedAfter (before : ℕ) (bytes : List ℕ) (n : ℕ) : Type 0 where
  pub bits : (bits_after before bytes).bits ≡ (bits_after before (take n bytes)).bits
  pub clean : (bits_after before (take n bytes)).fault ≡ Ended
  pub last : last_after before (take n bytes) ≡ 255
  pub one : 128 ≤ slice_index bytes n

abbrev pub StuffedAt : List ℕ → ℕ → Type 0
StuffedAt bytes n = StuffedAfter 0 bytes n

-- bits that end before others do which they begin
pub record IsCutOf (whole bits : List Bool) : Type 0 where
  pub missing : List Bool
  pub some : 0 < length missing
  pub begins : whole ≡ bits ++ missing

-- ---- the lengths of a block's parts (B.10.7)
-- a number of some bits that is 2^32 or more
pub record IsLong (n : ℕ) (bits : List Bool) : Type 0 where
  pub number : ℕ
  pub fits : number < 2 ^ n
  pub long : 2 ^ 32 ≤ number
  pub behind : List Bool
  pub stands : bits ≡ low_bits n number ++ behind

-- the lengths of some parts stand there, and behind them that of the next part doesn't
pub record LengthsStop (lblock block first : ℕ) (runs : List ℕ) (bits : List Bool) : Type 0 where
  pub front : List ℕ
  pub run : ℕ
  pub others : List ℕ
  pub runs_are : runs ≡ front ++ (run ∷ others)
  pub parts : List HeaderPart
  pub are : AreHeaderParts lblock block first front parts
  pub behind : List Bool
  pub stands : bits ≡ length_bits lblock parts ++ behind
  pub stops : (length behind < width lblock run) ⊎ IsLong (width lblock run) behind

-- ---- the passes of an included block (B.10.6), the raise of Lblock, and its lengths
pub record PassesStop (bits : List Bool) : Type 0 where
  pub passes : ℕ
  pub count : IsCount passes
  pub cut_off : IsCutOf (pass_word passes) bits

-- passes that the block may have stand there, and behind them
pub record HasPasses (planes z : ℕ) (known : Known) (passes : ℕ) (bits behind : List Bool) : Type 0 where
  pub count : IsCount passes
  pub few : known.passes + passes ≤ most_passes planes z
  pub stands : bits ≡ pass_word passes ++ behind

-- nothing but ones up to where the bits end
pub record RaiseStops (planes z : ℕ) (known : Known) (bits : List Bool) : Type 0 where
  pub passes : ℕ
  pub ones : ℕ
  pub has : HasPasses planes z known passes bits (replicate ones true)

-- a raise, and then lengths of which one doesn't stand there
pub record PartsStop (style block planes z : ℕ) (known : Known) (bits : List Bool) : Type 0 where
  pub passes : ℕ
  pub raise : ℕ
  pub behind : List Bool
  pub has : HasPasses planes z known passes bits (raise_word raise ++ behind)
  pub stops : LengthsStop (known.lblock + raise) block known.passes (cut style known.passes passes) behind

-- ---- a block
-- the bits end before it is told whether the block is included (B.10.4)
pub record FirstStops (v : Values) (layer leaf : ℕ) (cells : Cells) (bits : List Bool) : Type 0 where
  pub included : Bool
  pub is : IsInclusion (block_at cells leaf).zero v.first leaf layer included
  pub cut_off : IsCutOf (first_bits (block_at cells leaf).zero v.first cells.first leaf layer included) bits

-- its zero planes stand there (B.10.5) and are fewer than its band's planes, but not what comes then
pub record ToldStops (v : Values) (style block leaf : ℕ) (cells : Cells) (bits : List Bool) : Type 0 where
  pub below : zero_planes (block_at cells leaf).zero v.zeros leaf < cells.planes
  pub behind : List Bool
  pub stands : bits ≡ zero_bits (block_at cells leaf).zero v.zeros cells.zeros leaf cells.planes ++ behind
  pub stops : PassesStop behind
      ⊎ RaiseStops cells.planes (zero_planes (block_at cells leaf).zero v.zeros leaf) (block_at cells leaf) behind
      ⊎ PartsStop style block cells.planes (zero_planes (block_at cells leaf).zero v.zeros leaf) (block_at cells leaf) behind

-- the block is included, and what comes then doesn't stand there
pub record IncludedStops (v : Values) (style layer block leaf : ℕ) (cells : Cells) (bits : List Bool) : Type 0 where
  pub first : IsInclusion (block_at cells leaf).zero v.first leaf layer true
  pub behind : List Bool
  pub stands : bits ≡ first_bits (block_at cells leaf).zero v.first cells.first leaf layer true ++ behind
  pub stops : IsCutOf (zero_bits (block_at cells leaf).zero v.zeros cells.zeros leaf cells.planes) behind ⊎ ToldStops v style block leaf cells behind

abbrev pub Stops : Values → ℕ → ℕ → ℕ → ℕ → Cells → List Bool → Type 0
Stops v style layer block leaf cells bits = FirstStops v layer leaf cells bits ⊎ IncludedStops v style layer block leaf cells bits

-- ---- bands
-- a band of which one block doesn't stand there, after entries of those before it
pub record BlocksStop (v : Values) (style layer base leaf : ℕ) (cells : Cells) (bits : List Bool) : Type 0 where
  pub at : ℕ
  pub inside : at < length cells.blocks
  pub entries : List Entry
  pub are : AreEntries v style layer base at leaf cells entries
  pub behind : List Bool
  pub stands : bits ≡ blocks_bits v layer leaf cells entries ++ behind
  pub stops : Stops v style layer (base + at) at (blocks_after v layer leaf cells entries) behind

pub record BandStops (style layer base : ℕ) (cells : Cells) (bits : List Bool) : Type 0 where
  pub values : Values
  pub agree : Agree cells values
  pub stops : BlocksStop values style layer base 0 cells bits

-- one band doesn't stand there, after those before it were told
abbrev pub BandsStop : ℕ → ℕ → ℕ → List Cells → List Bool → Type 0
BandsStop style layer base [] bits = ⊥
BandsStop style layer base (cells ∷ bands) bits =
    BandStops style layer base cells bits
    ⊎ ((behind : List Bool) × BandStands style layer base cells bits behind × BandsStop style layer (base + length cells.blocks) bands behind)

-- ---- a header
pub record HeaderStops (bytes : List ℕ) (k : State) : Type 0 where
  pub rest : List Bool
  pub stands : (bits_of bytes).bits ≡ true ∷ rest
  pub stops : BandsStop k.style k.layer 0 k.bands rest

-- its bits stand there, but not the byte after a last byte FF, or that byte's stuffed bit is 1
pub record EndStops (bytes : List ℕ) (k : State) : Type 0 where
  pub header : Header
  pub is : IsToldOf k header
  pub rest : List Bool
  pub stands : (bits_of bytes).bits ≡ header_bits k header ++ rest
  pub fault : BitFault
  pub ends : end_after bytes (length (header_bits k header)) ≡ Err fault

-- Rule 26: there is no bit at all; or bits of some blocks, and then a block of which a bit is missing or a length is 2^32 or
-- more; or all bits of a header, and not its end.
abbrev pub BreaksBits : List ℕ → State → Type 0
BreaksBits bytes k = ((bits_of bytes).bits ≡ []) ⊎ HeaderStops bytes k ⊎ EndStops bytes k

-- a packet stands at the front of some bytes
pub record HasPacket (bytes : List ℕ) (k : State) : Type 0 where
  pub parts : List HeaderPart
  pub used : ℕ
  pub after : State
  pub is : IsPacket bytes k parts used after
