-- A precinct before its first packet.
use Rattle.std.specs.Prelude.{◌≡◌, ℕ, ◌+◌, ◌*◌, ◌≤◌, ◌==◌, ◌⊎◌, List, [], ◌∷◌, ◌++◌, length, replicate, if◌then◌else◌}
use Rattle.jx_tagtree.specs.TagTree.{fresh}
use Rattle.jx_packet_header.specs.declared.BandCells.{BandCells}
use Rattle.jx_packet_header.specs.declared.known.Known.{Known}
use Rattle.jx_packet_header.specs.Packet.{Cells, State, unknown_block}
use Rattle.jx_packet_header.specs.Kept.{AreBands}
use Rattle.jx_base.specs.Limits.{most_blocks}

-- how many blocks bands have
abbrev pub cells_in : List BandCells → ℕ
cells_in [] = 0
cells_in (b ∷ bands) = b.wide * b.high + cells_in bands

-- a band's sizes
pub record IsBandCells (b : BandCells) : Type 0 where
  pub size : ((b.wide ≡ 0) × (b.high ≡ 0)) ⊎ ((1 ≤ b.wide) × (1 ≤ b.high))
  pub planes : b.planes ≤ 255

abbrev pub AreBandCells : List BandCells → Type 0
AreBandCells [] = Unit {0}
AreBandCells (b ∷ bands) = IsBandCells b × AreBandCells bands

-- the bands that a precinct may have
pub record CellsInRange (bands : List BandCells) : Type 0 where
  pub each : AreBandCells bands
  pub few : cells_in bands ≤ most_blocks

-- a band of which no header has told anything
abbrev pub fresh_cells : BandCells → Cells
fresh_cells b = record { first = fresh b.wide b.high; zeros = fresh b.wide b.high; planes = b.planes; blocks = replicate (b.wide * b.high) unknown_block }

-- the bands that have blocks
abbrev pub fresh_bands : List BandCells → List Cells
fresh_bands [] = []
fresh_bands (b ∷ bands) = if b.wide == 0 then fresh_bands bands else fresh_cells b ∷ fresh_bands bands

abbrev pub fresh_state : ℕ → List BandCells → State
fresh_state style bands = record { style = style; layer = 0; bands = fresh_bands bands }

-- the blocks of all bands, in order
abbrev pub all_blocks : List Cells → List Known
all_blocks [] = []
all_blocks (cells ∷ bands) = cells.blocks ++ all_blocks bands

-- a precinct that was not given up
pub record IsState (k : State) : Type 0 where
  pub bands : AreBands k.bands
  pub few : length (all_blocks k.bands) ≤ most_blocks
