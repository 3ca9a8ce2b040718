-- The code-blocks of a codestream with their pieces, and the first rule that its tile data violate or limit that it passes.
use Rattle.std.specs.Prelude.{◌≡◌, ◌⊎◌, ◌<◌, ℕ, List, ◌++◌, length, None, Some}
use Rattle.jx_base.specs.declared.pieces.Block.{Block}
use Rattle.jx_progression.specs.declared.names.PacketName.{PacketName}
use Rattle.jx_codestream.specs.declared.Body.{Body}
use Rattle.jx_codestream.specs.declared.Stream.{Stream}
use Rattle.jx_codestream.specs.First.{tile_number}
use Rattle.jx_codestream.specs.declared.faults.StreamFault.{StreamFault}
use Rattle.jx_codestream.specs.Shapes.{geometry, tile_at}
use Rattle.jx_tile.specs.Covered.{IsListOf, IsUncovered, IsWhole}
use Rattle.jx_tile.specs.Totals.{totals_fault}
use Rattle.jx_tier2_reader.specs.Fresh.{fresh_precincts}
use Rattle.jx_tier2_reader.specs.Data.{end_in, packed_in, packed_pieces}
use Rattle.jx_tier2_reader.specs.Cuts.{Cut, Left, AreCuts, left_fault, names_of, Stops}
use Rattle.jx_tier2_reader.specs.Blocks.{founds_of, blocks_of_tile}
use Rattle.jx_base.specs.Joined.{joined}

-- before the first packet
abbrev pub start : List ℕ → Stream → ℕ → Left
start b s t = record {
  bodies = (tile_at s t).bodies;
  end = end_in (tile_at s t).heads (tile_at s t).bodies;
  packed = packed_in b (tile_at s t).heads;
  states = fresh_precincts s (geometry s t);
}

-- the pieces of the file that are a tile's packed headers, none where each header stands before its packet
abbrev pub head_pieces : Stream → ℕ → List Body
head_pieces s t = packed_pieces (tile_at s t).heads

-- a tile's data, and its packed headers, are its packets in their order, and no byte is left
pub record IsCutUp (b : List ℕ) (s : Stream) (t : ℕ) (cuts : List Cut) : Type 0 where
  pub order : IsListOf s t (names_of cuts)
  pub end : Left
  pub are : AreCuts b (geometry s t) 0 (start b s t) cuts end
  -- rule 31
  pub none_left : left_fault (head_pieces s t) end ≡ None

-- the blocks of a tile
abbrev pub AreTileBlocks : List ℕ → Stream → ℕ → List Block → Type 0
AreTileBlocks b s t blocks = (cuts : List Cut) × IsCutUp b s t cuts × (blocks ≡ blocks_of_tile s (geometry s t) (founds_of (geometry s t) cuts))

-- the blocks of a codestream, in the order of their numbers: each tile's packets are covered and read
pub record IsGathered (b : List ℕ) (s : Stream) (blocks : List Block) : Type 0 where
  pub whole : (t : ℕ) → t < tile_number s.siz → IsWhole s t
  pub tiles : ℕ → List Block
  pub are : (t : ℕ) → t < tile_number s.siz → AreTileBlocks b s t (tiles t)
  pub blocks_are : blocks ≡ joined tiles 0 (tile_number s.siz)

-- a tile's data are cut up to a packet in which a rule is violated, or a byte is left
pub record BreaksTile (b : List ℕ) (s : Stream) (t : ℕ) (f : StreamFault) : Type 0 where
  pub cuts : List Cut
  pub rest : List PacketName
  pub order : IsListOf s t (names_of cuts ++ rest)
  pub left : Left
  pub are : AreCuts b (geometry s t) 0 (start b s t) cuts left
  pub stops : Stops b (geometry s t) (head_pieces s t) (length cuts) left rest f

-- rules 26 to 31: in the lowest tile
pub record BreaksData (b : List ℕ) (s : Stream) (f : StreamFault) : Type 0 where
  pub whole : (t : ℕ) → t < tile_number s.siz → IsWhole s t
  pub tile : ℕ
  pub inside : tile < tile_number s.siz
  pub before : (t : ℕ) → t < tile → (cuts : List Cut) × IsCutUp b s t cuts
  pub breaks : BreaksTile b s tile f

-- limits 5 and 6, then rule 25, then rules 26 to 31
abbrev pub IsBroken : List ℕ → Stream → StreamFault → Type 0
IsBroken b s f = (totals_fault s ≡ Some f) ⊎ ((totals_fault s ≡ None) × (IsUncovered s f ⊎ BreaksData b s f))
