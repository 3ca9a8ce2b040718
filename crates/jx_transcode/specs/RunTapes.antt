-- The tape that a run may tell of an input, and where it ends; d of the highest resolutions are left out of it.
use Rattle.std.specs.Prelude.{◌≡◌, ◌⊎◌, ◌<◌, ◌≤◌, ◌+◌, ℕ, List, [], length}
use Rattle.jx_base.specs.declared.pieces.Block.{Block}
use Rattle.jx_codestream.specs.declared.Stream.{Stream}
use Rattle.jx_codestream.specs.First.{tile_number}
use Rattle.jx_options.specs.Work.{Work}
use Rattle.jx_transcode.specs.Rewritten.{HasBlocks, ReadsLeft}
use Rattle.jx_transcode.specs.declared.status.Status.{Status}
use Rattle.jx_transcode.specs.declared.status.Status.TheVariants as status
use Rattle.jx_rounds.specs.Tapes.{IsTapeOf}
use Rattle.jx_rounds.specs.Tiles.{blocks_in_tile, first_in_tile, round_start}
use Rattle.jx_rounds.specs.declared.tape.TapeEntry.{TapeEntry}

-- of what is left of an input that was read whole
pub record IsTapeOn (work : Work) (d : ℕ) (input : List ℕ) (tape : List TapeEntry) : Type 0 where
  pub stream : Stream
  pub blocks : List Block
  pub reads : ReadsLeft d input stream blocks
  pub of : IsTapeOf work blocks tape

abbrev pub IsRunTape : Work → ℕ → List ℕ → List TapeEntry → Type 0
IsRunTape work d input tape = (tape ≡ []) ⊎ IsTapeOn work d input tape

-- the tape has so many entries: those of the blocks before the round of a tile
pub record IsTapedToTile (d : ℕ) (input : List ℕ) (t entries : ℕ) : Type 0 where
  pub stream : Stream
  pub blocks : List Block
  pub reads : ReadsLeft d input stream blocks
  pub inside : t < tile_number stream.siz
  pub count_is : entries ≡ first_in_tile stream (round_start stream t)

-- those before the round of the tile that has a block
pub record IsTapedToBlock (d : ℕ) (input : List ℕ) (number entries : ℕ) : Type 0 where
  pub stream : Stream
  pub blocks : List Block
  pub reads : ReadsLeft d input stream blocks
  pub tile : ℕ
  pub inside : tile < tile_number stream.siz
  pub from : first_in_tile stream tile ≤ number
  pub below : number < first_in_tile stream tile + blocks_in_tile stream tile
  pub count_is : entries ≡ first_in_tile stream (round_start stream tile)

-- those before a tile at which a round begins
pub record IsTapedToRound (s : Stream) (entries : ℕ) : Type 0 where
  pub tile : ℕ
  pub inside : tile < tile_number s.siz
  pub begins : round_start s tile ≡ tile
  pub count_is : entries ≡ first_in_tile s tile

-- those of whole rounds: of all blocks, or before such a tile
pub record IsTapedInRounds (d : ℕ) (input : List ℕ) (entries : ℕ) : Type 0 where
  pub stream : Stream
  pub blocks : List Block
  pub reads : ReadsLeft d input stream blocks
  pub ends : (entries ≡ length blocks) ⊎ IsTapedToRound stream entries

-- none, or those of whole rounds
abbrev pub IsTapedInPart : ℕ → List ℕ → ℕ → Type 0
IsTapedInPart d input entries = (entries ≡ 0) ⊎ IsTapedInRounds d input entries

-- how many entries the tape has after a status: those of all blocks after Done; those of the rounds before that of the tile after Block and
-- choice 7; none, or those of whole rounds, after a write fault and for want of memory; and else none
abbrev pub IsTapedAfter : ℕ → List ℕ → Status → ℕ → Type 0
IsTapedAfter d input status.Done entries = HasBlocks d input entries
IsTapedAfter d input status.Words entries = entries ≡ 0
IsTapedAfter d input (status.Unlike how) entries = entries ≡ 0
IsTapedAfter d input (status.Rule number place) entries = entries ≡ 0
IsTapedAfter d input (status.Limit number found) entries = entries ≡ 0
IsTapedAfter d input (status.Choice number place) entries = ((number ≡ 7) × IsTapedToTile d input place entries) ⊎ ((number ≡ 7 → ⊥) × (entries ≡ 0))
IsTapedAfter d input (status.Block number) entries = IsTapedToBlock d input number entries
IsTapedAfter d input status.ReadFault entries = entries ≡ 0
IsTapedAfter d input status.WriteFault entries = IsTapedInPart d input entries
IsTapedAfter d input status.NoMemory entries = IsTapedInPart d input entries
