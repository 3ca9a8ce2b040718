-- Packet headers (ITU-T T.800, B.10): the bits of a header are a function of what it tells and of what was told before.
use Rattle.std.specs.Prelude.{◌≡◌, ℕ, zero, suc, ◌+◌, ◌-◌, ◌*◌, ◌<◌, ◌≤◌, min, nat_lt, Bool, true, false, List, [], ◌∷◌, ◌++◌, length, slice_set, slice_index_or, if◌then◌else◌, Option, Some, None, Ok, ◌⊎◌}
use Rattle.std.specs.Bool.{MatchBool}
use Rattle.jx_tagtree.specs.Header.{bits_of, end_after}
use Rattle.jx_tagtree.specs.TagTree.{Tree, query, tree_after, ValuesOf}
use Rattle.jx_tagtree.specs.Questions.{Question, all_bits, after_all}
use Rattle.jx_packet_header.specs.declared.HeaderPart.{HeaderPart}
use Rattle.jx_packet_header.specs.declared.known.Known.{Known}
use Rattle.jx_packet_header.specs.Words.{IsCount, pass_word, raise_word}
use Rattle.jx_packet_header.specs.Parts.{AreHeaderParts, cut, length_bits}

-- ---- what was told before
-- of a block that no packet has included yet
abbrev pub unknown_block : Known
unknown_block = record { zero = None; passes = 0; lblock = 3 }

-- of a band: what is known of the tag tree of first layers and of that of zero planes, its planes, and its blocks
pub record Cells : Type 0 where
  pub first : Tree
  pub zeros : Tree
  pub planes : ℕ
  pub blocks : List Known

-- of a precinct: the style of its blocks, the next layer, and its bands that have blocks
pub record State : Type 0 where
  pub style : ℕ
  pub layer : ℕ
  pub bands : List Cells

abbrev pub block_at : Cells → ℕ → Known
block_at cells leaf = slice_index_or cells.blocks leaf unknown_block

-- ---- what a header tells
-- values of the nodes of a band's two tag trees
pub record Values : Type 0 where
  pub first : ℕ → ℕ
  pub zeros : ℕ → ℕ

-- they agree with what is known of the nodes
pub record Agree (cells : Cells) (v : Values) : Type 0 where
  pub in_first : ValuesOf cells.first v.first
  pub in_zeros : ValuesOf cells.zeros v.zeros

-- of a block: how many passes the packet has of it, by how much Lblock is raised, and its parts
pub record Entry : Type 0 where
  pub passes : ℕ
  pub raise : ℕ
  pub parts : List HeaderPart

-- a block of which the packet has nothing
abbrev pub nothing : Entry
nothing = record { passes = 0; raise = 0; parts = [] }

abbrev pub contributes : Entry → Bool
contributes e = nat_lt 0 e.passes

-- ---- whether a block is included (B.10.4)
-- the tag tree's bits for a block that was not included before, else one bit
abbrev pub first_bits : Option ℕ → (ℕ → ℕ) → Tree → ℕ → ℕ → Bool → List Bool
first_bits None values tree leaf layer included = (query values tree leaf (layer + 1)).bits
first_bits (Some z) values tree leaf layer included = included ∷ []

abbrev pub first_after : Option ℕ → (ℕ → ℕ) → Tree → ℕ → ℕ → Tree
first_after None values tree leaf layer = tree_after values tree leaf (layer + 1)
first_after (Some z) values tree leaf layer = tree

-- a block that was not included before is now, where its first layer is at most this one
abbrev pub IsInclusion : Option ℕ → (ℕ → ℕ) → ℕ → ℕ → Bool → Type 0
IsInclusion None values leaf layer included = nat_lt (values leaf) (layer + 1) ≡ included
IsInclusion (Some z) values leaf layer included = Unit {0}

-- ---- the zero planes of a block (B.10.5)
abbrev pub zero_planes : Option ℕ → (ℕ → ℕ) → ℕ → ℕ
zero_planes None values leaf = values leaf
zero_planes (Some z) values leaf = z

-- whether they are below n + 1, n + 2 and on, that many times
abbrev pub asked : ℕ → ℕ → ℕ → List Question
asked leaf n zero = []
asked leaf n (suc more) = record { leaf = leaf; threshold = n + 1 } ∷ asked leaf (n + 1) more

-- a band's planes are where the questions end
abbrev pub zero_questions : (ℕ → ℕ) → ℕ → ℕ → List Question
zero_questions values leaf planes = asked leaf 0 (min planes (values leaf + 1))

abbrev pub zero_bits : Option ℕ → (ℕ → ℕ) → Tree → ℕ → ℕ → List Bool
zero_bits None values tree leaf planes = all_bits values tree (zero_questions values leaf planes)
zero_bits (Some z) values tree leaf planes = []

abbrev pub zero_after : Option ℕ → (ℕ → ℕ) → Tree → ℕ → ℕ → Tree
zero_after None values tree leaf planes = after_all values tree (zero_questions values leaf planes)
zero_after (Some z) values tree leaf planes = tree

-- ---- a block
-- its passes, its Lblock and its lengths
abbrev pub told_bits : ℕ → Entry → List Bool
told_bits lblock e = pass_word e.passes ++ (raise_word e.raise ++ length_bits (lblock + e.raise) e.parts)

abbrev pub included_bits : Values → ℕ → Cells → Entry → List Bool
included_bits v leaf cells e =
    zero_bits (block_at cells leaf).zero v.zeros cells.zeros leaf cells.planes ++ told_bits (block_at cells leaf).lblock e

abbrev pub entry_bits : Values → ℕ → ℕ → Cells → Entry → List Bool
entry_bits v layer leaf cells e =
    first_bits (block_at cells leaf).zero v.first cells.first leaf layer (contributes e)
    ++ (if contributes e then included_bits v leaf cells e else [])

abbrev pub block_after : Known → ℕ → Entry → Known
block_after known z e = record { zero = Some z; passes = known.passes + e.passes; lblock = known.lblock + e.raise }

-- what is known after the first of its bits, and after all of an included block's
abbrev pub cells_first : Values → ℕ → ℕ → Cells → Cells
cells_first v layer leaf cells = record cells { first = first_after (block_at cells leaf).zero v.first cells.first leaf layer }

abbrev pub cells_included : Values → ℕ → Cells → Entry → Cells
cells_included v leaf cells e = record cells {
  zeros = zero_after (block_at cells leaf).zero v.zeros cells.zeros leaf cells.planes;
  blocks = slice_set cells.blocks leaf (block_after (block_at cells leaf) (zero_planes (block_at cells leaf).zero v.zeros leaf) e);
}

abbrev pub entry_after : Values → ℕ → ℕ → Cells → Entry → Cells
entry_after v layer leaf cells e =
    if contributes e then cells_included v leaf (cells_first v layer leaf cells) e else cells_first v layer leaf cells

-- the most passes that a block may have
abbrev pub most_passes : ℕ → ℕ → ℕ
most_passes planes z = 3 * (planes - z) - 2

-- what a header tells of a block that it includes
pub record IsIncluded (style block planes z : ℕ) (known : Known) (e : Entry) : Type 0 where
  pub below : z < planes
  pub count : IsCount e.passes
  pub few : known.passes + e.passes ≤ most_passes planes z
  pub parts : AreHeaderParts (known.lblock + e.raise) block known.passes (cut style known.passes e.passes) e.parts

pub record IsEntry (v : Values) (style layer block leaf : ℕ) (cells : Cells) (e : Entry) : Type 0 where
  pub first : IsInclusion (block_at cells leaf).zero v.first leaf layer (contributes e)
  pub told : MatchBool (contributes e)
      (IsIncluded style block cells.planes (zero_planes (block_at cells leaf).zero v.zeros leaf) (block_at cells leaf) e)
      (e ≡ nothing)

-- An included block whose zero planes reach its band's planes: they do so before any bit of its passes.
pub record ReachesPlanes (v : Values) (leaf : ℕ) (cells : Cells) (bits : List Bool) : Type 0 where
  pub reach : cells.planes ≤ zero_planes (block_at cells leaf).zero v.zeros leaf
  pub rest : List Bool
  pub stands : bits ≡ zero_bits (block_at cells leaf).zero v.zeros cells.zeros leaf cells.planes ++ rest

-- One that has too many passes: it does so at the code word of their number.
pub record PassesPlanes (v : Values) (leaf : ℕ) (cells : Cells) (bits : List Bool) : Type 0 where
  pub below : zero_planes (block_at cells leaf).zero v.zeros leaf < cells.planes
  pub passes : ℕ
  pub count : IsCount passes
  pub over : most_passes cells.planes (zero_planes (block_at cells leaf).zero v.zeros leaf) < (block_at cells leaf).passes + passes
  pub rest : List Bool
  pub stands : bits ≡ zero_bits (block_at cells leaf).zero v.zeros cells.zeros leaf cells.planes ++ (pass_word passes ++ rest)

-- where a block is included that breaks its band's planes, and the bits from its first on
pub record Breaks (v : Values) (layer leaf : ℕ) (cells : Cells) (bits : List Bool) : Type 0 where
  pub first : IsInclusion (block_at cells leaf).zero v.first leaf layer true
  pub behind : List Bool
  pub stands : bits ≡ first_bits (block_at cells leaf).zero v.first cells.first leaf layer true ++ behind
  pub breaks : ReachesPlanes v leaf cells behind ⊎ PassesPlanes v leaf cells behind

-- ---- the blocks of a band, in raster order, from one on
abbrev pub blocks_bits : Values → ℕ → ℕ → Cells → List Entry → List Bool
blocks_bits v layer leaf cells [] = []
blocks_bits v layer leaf cells (e ∷ es) = entry_bits v layer leaf cells e ++ blocks_bits v layer (leaf + 1) (entry_after v layer leaf cells e) es

abbrev pub blocks_after : Values → ℕ → ℕ → Cells → List Entry → Cells
blocks_after v layer leaf cells [] = cells
blocks_after v layer leaf cells (e ∷ es) = blocks_after v layer (leaf + 1) (entry_after v layer leaf cells e) es

-- entries of the blocks up to one; `base` blocks stand in the bands before
abbrev pub AreEntries : Values → ℕ → ℕ → ℕ → ℕ → ℕ → Cells → List Entry → Type 0
AreEntries v style layer base stop leaf cells [] = leaf ≡ stop
AreEntries v style layer base stop leaf cells (e ∷ es) =
    (leaf < stop) × IsEntry v style layer (base + leaf) leaf cells e × AreEntries v style layer base stop (leaf + 1) (entry_after v layer leaf cells e) es

abbrev pub parts_told : List Entry → List HeaderPart
parts_told [] = []
parts_told (e ∷ es) = e.parts ++ parts_told es

-- a band of which one block breaks its planes, after entries of those before it
pub record BlocksBreak (v : Values) (style layer base leaf : ℕ) (cells : Cells) (bits : List Bool) : Type 0 where
  pub at : ℕ
  pub inside : at < length cells.blocks
  pub entries : List Entry
  pub are : AreEntries v style layer base at leaf cells entries
  pub behind : List Bool
  pub stands : bits ≡ blocks_bits v layer leaf cells entries ++ behind
  pub breaks : Breaks v layer at (blocks_after v layer leaf cells entries) behind

-- ---- the bands of a precinct
pub record BandTold : Type 0 where
  pub values : Values
  pub entries : List Entry

pub record IsBandTold (style layer base : ℕ) (cells : Cells) (told : BandTold) : Type 0 where
  pub agree : Agree cells told.values
  pub are : AreEntries told.values style layer base (length cells.blocks) 0 cells told.entries

abbrev pub band_bits : ℕ → Cells → BandTold → List Bool
band_bits layer cells told = blocks_bits told.values layer 0 cells told.entries

abbrev pub band_after : ℕ → Cells → BandTold → Cells
band_after layer cells told = blocks_after told.values layer 0 cells told.entries

abbrev pub bands_bits : ℕ → List Cells → List BandTold → List Bool
bands_bits layer [] tolds = []
bands_bits layer (cells ∷ bands) [] = []
bands_bits layer (cells ∷ bands) (told ∷ tolds) = band_bits layer cells told ++ bands_bits layer bands tolds

abbrev pub bands_after : ℕ → List Cells → List BandTold → List Cells
bands_after layer [] tolds = []
bands_after layer (cells ∷ bands) [] = cells ∷ bands
bands_after layer (cells ∷ bands) (told ∷ tolds) = band_after layer cells told ∷ bands_after layer bands tolds

abbrev pub AreBandsTold : ℕ → ℕ → ℕ → List Cells → List BandTold → Type 0
AreBandsTold style layer base [] [] = Unit {0}
AreBandsTold style layer base [] (told ∷ tolds) = ⊥
AreBandsTold style layer base (cells ∷ bands) [] = ⊥
AreBandsTold style layer base (cells ∷ bands) (told ∷ tolds) =
    IsBandTold style layer base cells told × AreBandsTold style layer (base + length cells.blocks) bands tolds

-- the values that are told of bands agree with what is known of each afterwards
abbrev pub AgreeAfter : ℕ → List Cells → List BandTold → Type 0
AgreeAfter layer [] tolds = Unit {0}
AgreeAfter layer (cells ∷ bands) [] = Unit {0}
AgreeAfter layer (cells ∷ bands) (told ∷ tolds) = Agree (band_after layer cells told) told.values × AgreeAfter layer bands tolds

abbrev pub bands_parts : List BandTold → List HeaderPart
bands_parts [] = []
bands_parts (told ∷ tolds) = parts_told told.entries ++ bands_parts tolds

-- one band breaks its planes, after those before it were told
pub record BandBreaks (style layer base : ℕ) (cells : Cells) (bits : List Bool) : Type 0 where
  pub values : Values
  pub agree : Agree cells values
  pub breaks : BlocksBreak values style layer base 0 cells bits

pub record BandStands (style layer base : ℕ) (cells : Cells) (bits behind : List Bool) : Type 0 where
  pub told : BandTold
  pub is : IsBandTold style layer base cells told
  pub stands : bits ≡ band_bits layer cells told ++ behind

abbrev pub BandsBreak : ℕ → ℕ → ℕ → List Cells → List Bool → Type 0
BandsBreak style layer base [] bits = ⊥
BandsBreak style layer base (cells ∷ bands) bits =
    BandBreaks style layer base cells bits
    ⊎ ((behind : List Bool) × BandStands style layer base cells bits behind × BandsBreak style layer (base + length cells.blocks) bands behind)

-- ---- a packet
-- a header that says that its packet is empty, or what it tells of each band
pub record Header : Type 0 where
  pub some : Bool
  pub tolds : List BandTold

abbrev pub header_bits : State → Header → List Bool
header_bits k h = if h.some then true ∷ bands_bits k.layer k.bands h.tolds else false ∷ []

abbrev pub header_after : State → Header → State
header_after k h = record { style = k.style; layer = k.layer + 1; bands = if h.some then bands_after k.layer k.bands h.tolds else k.bands }

abbrev pub header_parts : Header → List HeaderPart
header_parts h = if h.some then bands_parts h.tolds else []

abbrev pub IsToldOf : State → Header → Type 0
IsToldOf k h = MatchBool h.some (AreBandsTold k.style k.layer 0 k.bands h.tolds) (h.tolds ≡ [])

-- A header stands at the front of some bytes: its tag trees' nodes have values that agree with the state before, with the
-- parts and with the state after; the bits of the bytes begin with its bits; no stuffed bit among them is 1, and a last
-- byte FF has its following byte. Filling bits may be anything.
pub record IsPacket (bytes : List ℕ) (k : State) (parts : List HeaderPart) (used : ℕ) (after : State) : Type 0 where
  pub header : Header
  pub is : IsToldOf k header
  pub rest : List Bool
  pub stands : (bits_of bytes).bits ≡ header_bits k header ++ rest
  pub ends : end_after bytes (length (header_bits k header)) ≡ Ok used
  pub parts_are : parts ≡ header_parts header
  pub after_is : after ≡ header_after k header

-- a header at the front of some bytes in which a block breaks its band's planes
pub record BreaksPlanes (bytes : List ℕ) (k : State) : Type 0 where
  pub rest : List Bool
  pub stands : (bits_of bytes).bits ≡ true ∷ rest
  pub breaks : BandsBreak k.style k.layer 0 k.bands rest

-- Two headers at the front of the same bytes are one: the same parts, the same length and the same state after.
pub record OneHeader (parts others : List HeaderPart) (after others_after : State) (used ends : ℕ) : Type 0 where
  pub parts_are : parts ≡ others
  pub used_is : used ≡ ends
  pub after_is : after ≡ others_after
