-- Inner: the tiles of a codestream gathered one after another.
use Rattle.std.specs.Prelude.{◌≡◌, ◌⊎◌, ◌<◌, ℕ, ◌==◌, List, if◌then◌else◌}
use Rattle.jx_base.specs.declared.pieces.Block.{Block}
use Rattle.jx_base.specs.Joined.{joined}
use Rattle.jx_codestream.specs.declared.Stream.{Stream}
use Rattle.jx_codestream.specs.declared.faults.StreamFault.{StreamFault}
use Rattle.jx_tile.specs.Covered.{LacksPacket}
use Rattle.jx_tier2_reader.specs.Cuts.{Cut}
use Rattle.jx_tier2_reader.specs.Gathered.{AreTileBlocks, BreaksTile, IsCutUp}

-- the blocks of the tiles below one
pub record IsGatheredTo (b : List ℕ) (s : Stream) (count : ℕ) (blocks : List Block) : Type 0 where
  pub tiles : ℕ → List Block
  pub are : (t : ℕ) → t < count → AreTileBlocks b s t (tiles t)
  pub blocks_are : blocks ≡ joined tiles 0 count

-- the same, with those of the next tile
abbrev pub with_tile : (ℕ → List Block) → ℕ → List Block → ℕ → List Block
with_tile tiles at next t = if t == at then next else tiles t

-- a tile's data are cut up
abbrev pub HasCuts : List ℕ → Stream → ℕ → Type 0
HasCuts b s t = (cuts : List Cut) × IsCutUp b s t cuts

-- a tile is refused: a packet is in no entry, or its data violate a rule
abbrev pub RefusesTile : List ℕ → Stream → ℕ → StreamFault → Type 0
RefusesTile b s t f = LacksPacket s t f ⊎ BreaksTile b s t f
