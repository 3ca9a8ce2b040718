-- What has been written of a plan, tile by tile: a head, which stands before the first tile-part, and the tile-parts of the first tiles; and
-- where a round ends.
use Rattle.std.specs.Prelude.{◌≡◌, ◌⊎◌, ◌<◌, ◌≤◌, ◌+◌, ◌-◌, ◌^◌, ℕ, List, Option, ◌++◌, drop, length, map, take, if◌then◌else◌, ◌==◌}
use Rattle.std.specs.List.{All}
use Rattle.jx_base.specs.Joined.{joined}
use Rattle.jx_base.specs.declared.pieces.Block.{Block}
use Rattle.jx_codeblock.specs.Recoded.{WrittenBlock}
use Rattle.jx_store.specs.declared.event.Taped.{Taped}
use Rattle.jx_store.specs.declared.work.Named.{Named}
use Rattle.jx_store.specs.Order.{numbers}
use Rattle.jx_store.specs.Setup.{Within}
use Rattle.jx_workers.specs.Tapes.{answer_of}
use Rattle.jx_marker.specs.Segments.{spelling}
use Rattle.jx_marker.specs.declared.Segment.TheVariants as segment
use Rattle.jx_codeblock.specs.Written.{block_asked}
use Rattle.jx_plan.specs.Plan.{Plan, headers_of}
use Rattle.jx_options.specs.Work.{Work, most_workers}
use Rattle.jx_codestream.specs.First.{tile_number}
use Rattle.jx_codestream.specs.Spells.{TilePart, part_bytes}
use Rattle.jx_tier2_writer.specs.declared.index.PartLength.{PartLength}
use Rattle.jx_tier2_writer.specs.Ready.{AreShort}
use Rattle.jx_tier2_writer.specs.Tile.{IsTooLong, blocks_in, first_block}
use Rattle.jx_tier2_writer.specs.TileParts.{AreTilePartsOf}
use Rattle.jx_rounds.specs.Sent.{PartSent, bytes_sent, lengths_behind, sent_of}
use Rattle.jx_rounds.specs.Taken.{SomeFront, followed_by}
use Rattle.jx_rounds.specs.Tiles.{IsRight, IsWrongAt, Round, begin_round, round_of, tile_size}
use Rattle.jx_rounds.specs.Tapes.{IsTapeOf, setup_of}
use Rattle.jx_rounds.specs.declared.tape.TapeEntry.{TapeEntry}
use Rattle.jx_rounds.specs.declared.halt.Halt.{Halt}
use Rattle.jx_rounds.specs.declared.halt.Halt.TheVariants as halt

-- the most bytes of a tile-part
abbrev pub most_of_part : ℕ
most_of_part = 2 ^ 32 - 1

-- the blocks as they are written: what is asked of each
abbrev pub blocks_of : Plan → List Block
blocks_of p = map block_asked p.jobs

-- no block of a tile is wrong, or this is the lowest one that is
abbrev pub IsRightTile : Plan → ℕ → Type 0
IsRightTile p tile = IsRight p.wanted p.stream p.blocks tile

abbrev pub IsWrongTile : Plan → ℕ → ℕ → Type 0
IsWrongTile p tile number = IsWrongAt p.wanted p.stream p.blocks tile number

-- what stands under the numbers of some jobs from one on: what each asks for, or its number where nothing can be made of it; by one of
-- the workers, and claimed inside both windows
pub record AreAnswers (p : Plan) (work : Work) (first : ℕ) (entries : List (Taped (Named WrittenBlock))) : Type 0 where
  pub order : map (λ (t : Taped (Named WrittenBlock)). t.number) entries ≡ numbers first (length entries)
  pub within : first + length entries ≤ length p.jobs
  pub answers : map (λ (t : Taped (Named WrittenBlock)). t.named) entries ≡ map answer_of (take (length entries) (drop first p.jobs))
  pub workers : All (λ (t : Taped (Named WrittenBlock)). t.worker < most_workers work.threads) entries
  pub seen : All (λ (t : Taped (Named WrittenBlock)). Within (setup_of work p.blocks) t.seen t.number) entries

-- the tape so far: the entries of the blocks below a number
pub record HasTape (p : Plan) (work : Work) (blocks : ℕ) (tape : List TapeEntry) : Type 0 where
  pub of : IsTapeOf work p.blocks tape
  pub long : length tape ≡ blocks

-- the tile-parts of the first tiles, none of which is too long, and of which no block is wrong
pub record IsShortFront (p : Plan) (tiles : ℕ) (sent : List PartSent) : Type 0 where
  pub parts : ℕ → List TilePart
  pub right : (t : ℕ) → t < tiles → IsRightTile p t
  pub are : (t : ℕ) → t < tiles → AreTilePartsOf p.wanted.marks (headers_of p) (blocks_of p) t (parts t)
  pub short : (t : ℕ) → t < tiles → AreShort (parts t)
  pub sent_are : sent ≡ joined (λ (t : ℕ). sent_of t (map (part_bytes (length p.stream.siz.comps)) (parts t))) 0 tiles

-- tile-parts that lead from a front to a longer one
abbrev pub LeadOn : Plan → ℕ → ℕ → List PartSent → Type 0
LeadOn p tile next more = (sent : List PartSent) → IsShortFront p tile sent → IsShortFront p next (sent ++ more)

-- each tile from one on below another is written, as far as a front is
abbrev pub GoesOn : Plan → ℕ → ℕ → Type 0
GoesOn p tile next = (sent : List PartSent) → IsShortFront p tile sent → (more : List PartSent) × IsShortFront p next more

-- the round of a tile
abbrev pub round_in : Plan → ℕ → Round
round_in p tile = round_of (blocks_in p) (tile_size p.stream) tile

-- a round begins at a tile
abbrev pub BeginsRound : Plan → ℕ → Type 0
BeginsRound p tile = round_in p tile ≡ begin_round tile

-- a tile in a round that began at another
abbrev pub IsInRound : Plan → ℕ → ℕ → Type 0
IsInRound p tile start = (round_in p tile).start ≡ start

-- a round ends before a tile: another begins there, or it is past the last one
abbrev pub EndsRound : Plan → ℕ → Type 0
EndsRound p tile = BeginsRound p tile ⊎ (tile ≡ tile_number p.stream.siz)

-- a tile, and the number of its first block
pub record IsPlace (p : Plan) (tile block : ℕ) : Type 0 where
  pub inside : tile ≤ tile_number p.stream.siz
  pub block_is : block ≡ first_block p tile

-- a head and a front that ends with a round
pub record IsRoundFront (p : Plan) (head bytes : List ℕ) : Type 0 where
  pub tiles : ℕ
  pub inside : tiles ≤ tile_number p.stream.siz
  pub sent : List PartSent
  pub front : IsShortFront p tiles sent
  pub ends : EndsRound p tiles
  pub bytes_are : bytes ≡ head ++ bytes_sent sent

-- a head and the front have been written that ends before a tile, of so many bytes
pub record HasFront (p : Plan) (head : List ℕ) (tile count : ℕ) (old new : Option (List ℕ)) : Type 0 where
  pub sent : List PartSent
  pub front : IsShortFront p tile sent
  pub written : new ≡ followed_by (head ++ bytes_sent sent) old
  pub count_is : count ≡ length (head ++ bytes_sent sent)

-- a head, all tiles and EOC
pub record IsWholeFile (p : Plan) (head bytes : List ℕ) : Type 0 where
  pub sent : List PartSent
  pub tiles : IsShortFront p (tile_number p.stream.siz) sent
  pub bytes_are : bytes ≡ (head ++ bytes_sent sent) ++ spelling 1 segment.Eoc

-- why a tile isn't written: its lowest block that is wrong, or else a tile-part that is too long
abbrev pub IsSpoiledBy : Plan → ℕ → Halt → Type 0
IsSpoiledBy p tile (halt.Bad at number) = (at ≡ tile) × IsWrongTile p tile number
IsSpoiledBy p tile (halt.TooLong at) = (at ≡ tile) × IsRightTile p tile × IsTooLong p (blocks_of p) tile most_of_part
IsSpoiledBy p tile halt.Failed = ⊥
IsSpoiledBy p tile halt.NoMemory = ⊥

-- the lowest tile that isn't written
pub record IsSpoiledTile (p : Plan) (why : Halt) (tile : ℕ) : Type 0 where
  pub inside : tile < tile_number p.stream.siz
  pub spoiled : IsSpoiledBy p tile why
  pub below : (more : List PartSent) × IsShortFront p tile more

-- a tile isn't written, and what was written are a head and the rounds before its own
pub record IsHaltedAt (p : Plan) (head : List ℕ) (why : Halt) (tile : ℕ) (bytes : List ℕ) : Type 0 where
  pub of : IsSpoiledTile p why tile
  pub start : ℕ
  pub sent : List PartSent
  pub front : IsShortFront p start sent
  pub bytes_are : bytes ≡ head ++ bytes_sent sent
  pub round : IsInRound p tile start

-- why rounds aren't written, and what has been
pub record IsHaltedTile (p : Plan) (head : List ℕ) (why : Halt) (tile : ℕ) (old new : Option (List ℕ)) : Type 0 where
  pub bytes : List ℕ
  pub is : IsHaltedAt p head why tile bytes
  pub written : new ≡ followed_by bytes old

-- a front of whole rounds, or of the file
pub record IsHaltedByFault (p : Plan) (head : List ℕ) (old new : Option (List ℕ)) : Type 0 where
  pub bytes : List ℕ
  pub of : IsRoundFront p head bytes ⊎ IsWholeFile p head bytes
  pub some : SomeFront old new bytes

abbrev pub IsHalted : Plan → List ℕ → Halt → Option (List ℕ) → Option (List ℕ) → Type 0
IsHalted p head (halt.Bad tile number) old new = IsHaltedTile p head (halt.Bad tile number) tile old new
IsHalted p head (halt.TooLong tile) old new = IsHaltedTile p head (halt.TooLong tile) tile old new
IsHalted p head halt.Failed old new = IsHaltedByFault p head old new
IsHalted p head halt.NoMemory old new = IsHaltedByFault p head old new

-- why a round isn't made that begins at a tile: a tile of it isn't written
pub record IsSpoiledFrom (p : Plan) (start : ℕ) (why : Halt) (tile : ℕ) : Type 0 where
  pub inside : tile < tile_number p.stream.siz
  pub spoiled : IsSpoiledBy p tile why
  pub round : IsInRound p tile start
  pub below : GoesOn p start tile

-- why a tile isn't made; want of memory is free
abbrev pub IsUnmadeTile : Plan → ℕ → Halt → Type 0
IsUnmadeTile p tile (halt.Bad at number) = IsSpoiledBy p tile (halt.Bad at number)
IsUnmadeTile p tile (halt.TooLong at) = IsSpoiledBy p tile (halt.TooLong at)
IsUnmadeTile p tile halt.Failed = ⊥
IsUnmadeTile p tile halt.NoMemory = Unit {0}

abbrev pub IsUnmade : Plan → ℕ → Halt → Type 0
IsUnmade p start (halt.Bad tile number) = IsSpoiledFrom p start (halt.Bad tile number) tile
IsUnmade p start (halt.TooLong tile) = IsSpoiledFrom p start (halt.TooLong tile) tile
IsUnmade p start halt.Failed = ⊥
IsUnmade p start halt.NoMemory = Unit {0}

-- the tiles from one on below another have been written, after so many bytes, and their tile-parts' lengths put down where they are asked
pub record HasRounds (p : Plan) (start tile before count : ℕ) (old new : Option (List ℕ)) (from to : Option (List PartLength)) : Type 0 where
  pub more : List PartSent
  pub lead : LeadOn p start tile more
  pub written : new ≡ followed_by (bytes_sent more) old
  pub count_is : count ≡ before + length (bytes_sent more)
  pub measured : to ≡ lengths_behind more from

-- a tile isn't written, and the rounds before its own have been
pub record IsSpoiledAfter (p : Plan) (start : ℕ) (why : Halt) (tile : ℕ) (old new : Option (List ℕ)) : Type 0 where
  pub more : List PartSent
  pub from : ℕ
  pub lead : LeadOn p start from more
  pub written : new ≡ followed_by (bytes_sent more) old
  pub spoiled : IsSpoiledFrom p from why tile

-- a front of some rounds has been written
pub record IsCutAfter (p : Plan) (start : ℕ) (old new : Option (List ℕ)) : Type 0 where
  pub more : List PartSent
  pub next : ℕ
  pub lead : LeadOn p start next more
  pub inside : next ≤ tile_number p.stream.siz
  pub ends : EndsRound p next
  pub some : SomeFront old new (bytes_sent more)

-- why rounds aren't written
abbrev pub IsUnwritten : Plan → ℕ → Halt → Option (List ℕ) → Option (List ℕ) → Type 0
IsUnwritten p start (halt.Bad tile number) old new = IsSpoiledAfter p start (halt.Bad tile number) tile old new
IsUnwritten p start (halt.TooLong tile) old new = IsSpoiledAfter p start (halt.TooLong tile) tile old new
IsUnwritten p start halt.Failed old new = IsCutAfter p start old new
IsUnwritten p start halt.NoMemory old new = IsCutAfter p start old new

-- it isn't for a tile
abbrev pub IsFault : Halt → Type 0
IsFault (halt.Bad tile number) = ⊥
IsFault (halt.TooLong tile) = ⊥
IsFault halt.Failed = Unit {0}
IsFault halt.NoMemory = Unit {0}

-- a tile that isn't written is of the round that begins at another
abbrev pub IsOfRound : Plan → ℕ → Halt → Type 0
IsOfRound p start (halt.Bad tile number) = IsInRound p tile start
IsOfRound p start (halt.TooLong tile) = IsInRound p tile start
IsOfRound p start halt.Failed = Unit {0}
IsOfRound p start halt.NoMemory = Unit {0}

-- the first blocks, so many of them, end with a round
pub record EndWithRound (p : Plan) (blocks : ℕ) : Type 0 where
  pub tile : ℕ
  pub place : IsPlace p tile blocks
  pub ends : EndsRound p tile

-- how many entries the tape has where rounds aren't written: those of the rounds before that of a tile that isn't written, or else of whole
-- rounds
abbrev pub IsTapedTo : Plan → Halt → ℕ → Type 0
IsTapedTo p (halt.Bad tile number) entries = entries ≡ first_block p ((round_in p tile).start)
IsTapedTo p (halt.TooLong tile) entries = entries ≡ first_block p ((round_in p tile).start)
IsTapedTo p halt.Failed entries = EndWithRound p entries
IsTapedTo p halt.NoMemory entries = EndWithRound p entries

-- the whole file has been written
pub record HasWhole (p : Plan) (head : List ℕ) (count : ℕ) (old new : Option (List ℕ)) : Type 0 where
  pub bytes : List ℕ
  pub whole : IsWholeFile p head bytes
  pub written : new ≡ followed_by bytes old
  pub count_is : count ≡ length bytes

-- a front with one tile more
abbrev pub with_parts : (ℕ → List TilePart) → ℕ → List TilePart → ℕ → List TilePart
with_parts parts tile own t = if t == tile then own else parts t
