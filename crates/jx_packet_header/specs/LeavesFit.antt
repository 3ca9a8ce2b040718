-- The leaves that a precinct may be written with.
use Rattle.std.specs.Prelude.{◌≡◌, ℕ, ◌+◌, ◌-◌, ◌*◌, ◌^◌, ◌<◌, ◌≤◌, nat_lt, List, [], ◌∷◌, ◌++◌, length, map, take, drop, replicate, slice_index_or, if◌then◌else◌}
use Rattle.jx_tagtree.specs.Header.{bytes_of}
use Rattle.jx_tagtree.specs.Leaves.{untold}
use Rattle.jx_packet_header.specs.declared.HeaderPart.{HeaderPart}
use Rattle.jx_packet_header.specs.declared.LeafPart.{LeafPart}
use Rattle.jx_packet_header.specs.declared.BandCells.{BandCells}
use Rattle.jx_packet_header.specs.Parts.{cut, width}
use Rattle.jx_packet_header.specs.Packet.{header_bits, most_passes, unknown_block}
use Rattle.jx_packet_header.specs.Precinct.{cells_in, CellsInRange}
use Rattle.jx_packet_header.specs.Written.{Leafed, Writes, first_leaves, zero_leaves, parts_in, passes_of, header_written, state_at}
use Rattle.jx_packet_header.specs.Writable.{AllFew, all_passes}

-- parts of a block in order of layers and passes, from a layer and a pass on, without a gap
abbrev pub AreRuns : ℕ → ℕ → ℕ → ℕ → List LeafPart → Type 0
AreRuns layers block layer first [] = Unit {0}
AreRuns layers block layer first (p ∷ ps) =
    (layer ≤ p.layer) × (p.layer < layers) × (p.told.block ≡ block) × (p.told.first ≡ first) × (1 ≤ p.told.passes) × AreRuns layers block p.layer (first + p.told.passes) ps

-- how many passes a block has in the layers before one
abbrev pub passes_before : ℕ → List LeafPart → ℕ
passes_before layer [] = 0
passes_before layer (p ∷ ps) = if nat_lt p.layer layer then p.told.passes + passes_before layer ps else passes_before layer ps

-- in one layer they are cut exactly after each pass that ends a segment, and have at most 164 passes
pub record IsLayerCut (style layer : ℕ) (parts : List LeafPart) : Type 0 where
  pub few : passes_of (parts_in layer parts) ≤ 164
  pub runs : map (λ (p : HeaderPart). p.passes) (parts_in layer parts) ≡ cut style (passes_before layer parts) (passes_of (parts_in layer parts))

-- a block that is included
pub record IsLeaf (style layers planes block : ℕ) (leaf : Leafed) : Type 0 where
  pub zero_planes : leaf.zero < planes
  pub few : all_passes leaf.parts ≤ most_passes planes leaf.zero
  pub parts : AreRuns layers block 0 0 leaf.parts
  pub cuts : (layer : ℕ) → IsLayerCut style layer leaf.parts

-- a block without parts is never included
abbrev pub FitsLeaf : ℕ → ℕ → ℕ → ℕ → Leafed → List LeafPart → Type 0
FitsLeaf style layers planes block leaf [] = Unit {0}
FitsLeaf style layers planes block leaf (p ∷ ps) = IsLeaf style layers planes block leaf

abbrev pub FitBand : ℕ → ℕ → ℕ → ℕ → List Leafed → Type 0
FitBand style layers planes block [] = Unit {0}
FitBand style layers planes block (leaf ∷ leaves) = FitsLeaf style layers planes block leaf leaf.parts × FitBand style layers planes (block + 1) leaves

abbrev pub FitBands : ℕ → ℕ → ℕ → List BandCells → List Leafed → Type 0
FitBands style layers base [] leaves = Unit {0}
FitBands style layers base (b ∷ bands) leaves =
    FitBand style layers b.planes base (take (b.wide * b.high) leaves) × FitBands style layers (base + b.wide * b.high) bands (drop (b.wide * b.high) leaves)

-- one leaf for each block, of which each fits
pub record LeavesFit (style layers : ℕ) (bands : List BandCells) (leaves : List Leafed) : Type 0 where
  pub all : length leaves ≡ cells_in bands
  pub each : FitBands style layers 0 bands leaves

-- what is asked of them: one leaf for each block, with few passes
pub record LeavesInRange (bands : List BandCells) (leaves : List Leafed) : Type 0 where
  pub all : length leaves ≡ cells_in bands
  pub few : AllFew leaves

-- a band's writer before the first packet
abbrev pub fresh_writes : ℕ → BandCells → List Leafed → Writes
fresh_writes layers b leaves = record {
  first = untold b.wide b.high (first_leaves layers leaves);
  zeros = untold b.wide b.high (zero_leaves b.planes leaves);
  planes = b.planes;
  blocks = replicate (b.wide * b.high) unknown_block;
  cursors = replicate (b.wide * b.high) 0;
}

-- the one header of a layer
abbrev pub header_at : ℕ → ℕ → List BandCells → List Leafed → ℕ → List ℕ
header_at layers style bands leaves layer =
    bytes_of (header_bits (state_at layers style bands leaves layer) (header_written layers (state_at layers style bands leaves layer) leaves))

-- bytes from one place up to another
pub record IsCutOut (bytes : List ℕ) (start stop : ℕ) (header : List ℕ) : Type 0 where
  pub ordered : start ≤ stop
  pub within : stop ≤ length bytes
  pub is : take (stop - start) (drop start bytes) ≡ header

-- the headers of the first layers are kept one behind another, with the places where each begins and the last ends
pub record AreHeaders (layers style : ℕ) (bands : List BandCells) (leaves : List Leafed) (count : ℕ) (bytes places : List ℕ) : Type 0 where
  pub long : length places ≡ count + 1
  pub last : slice_index_or places count 0 ≡ length bytes
  pub each : (layer : ℕ) → layer < count → IsCutOut bytes (slice_index_or places layer 0) (slice_index_or places (layer + 1) 0) (header_at layers style bands leaves layer)

-- lengths of 32 bits
abbrev pub AreShort : List HeaderPart → Type 0
AreShort [] = Unit {0}
AreShort (p ∷ ps) = (p.length < 2 ^ 32) × AreShort ps

-- each length fits its bits
abbrev pub AllFit : ℕ → List HeaderPart → Type 0
AllFit lblock [] = Unit {0}
AllFit lblock (p ∷ ps) = (p.length < 2 ^ width lblock p.passes) × AllFit lblock ps

-- the parts that a layer's packet has, over the blocks in order
abbrev pub parts_at : ℕ → List Leafed → List HeaderPart
parts_at layer [] = []
parts_at layer (leaf ∷ leaves) = parts_in layer leaf.parts ++ parts_at layer leaves

-- a block's lengths have 32 bits
abbrev pub HasShort : List LeafPart → Type 0
HasShort [] = Unit {0}
HasShort (p ∷ ps) = (p.told.length < 2 ^ 32) × HasShort ps

abbrev pub AllShort : List Leafed → Type 0
AllShort [] = Unit {0}
AllShort (l ∷ ls) = HasShort l.parts × AllShort ls

-- the ranges that the program's types have: the number of layers has 16 bits, a length 32
pub record InTypes (layers : ℕ) (leaves : List Leafed) : Type 0 where
  pub few : layers < 2 ^ 16
  pub short : AllShort leaves

-- a precinct that is written, with the headers of all its layers
pub record IsPlan (layers style : ℕ) (bands : List BandCells) (leaves : List Leafed) (bytes places : List ℕ) : Type 0 where
  pub cells : CellsInRange bands
  pub types : InTypes layers leaves
  pub are : AreHeaders layers style bands leaves layers bytes places
