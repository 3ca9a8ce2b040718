-- Inner: a round as it is made: what is made of its code-blocks, and of which of its tiles they are.
use Rattle.std.specs.Prelude.{◌≡◌, ◌⊎◌, ◌<◌, ◌≤◌, ◌+◌, ℕ, false, List, ◌++◌, drop, is_some, length, map, take, Some, slice_get}
use Rattle.std.specs.List.{All, concat, flat_map, list_any, sum}
use Rattle.jx_codeblock.specs.declared.job.Job.{Job}
use Rattle.jx_codeblock.specs.Recoded.{WrittenBlock}
use Rattle.jx_store.specs.declared.event.Taped.{Taped}
use Rattle.jx_store.specs.declared.work.Named.{Named}
use Rattle.jx_store.specs.declared.work.Named.TheVariants.{Bad, Short}
use Rattle.jx_workers.specs.Tapes.{IsTape, answer_of, size_of}
use Rattle.jx_codestream.specs.First.{tile_number}
use Rattle.jx_options.specs.Work.{Work, most_workers}
use Rattle.jx_plan.specs.Plan.{Plan}
use Rattle.jx_tier2_writer.specs.Tile.{AreMade, blocks_in, first_block}
use Rattle.jx_rounds.specs.Rounds.{EndsRound, HasTape, IsInRound, round_in}
use Rattle.jx_rounds.specs.Tiles.{most_read}
use Rattle.jx_rounds.specs.declared.tape.TapeEntry.{TapeEntry}
use Rattle.jx_base.specs.Limits.{most_bytes}

-- jobs that aren't shared among workers: no block is coded anew, or their pieces have over 2^32 - 1 bytes
abbrev pub AreUnshared : List Job → Type 0
AreUnshared jobs = (list_any (λ (j : Job). is_some j.style) jobs ≡ false) ⊎ (most_bytes < sum (map size_of jobs))

-- what was made of some jobs one after another, on one thread
pub record AreMadeAlone (jobs : List Job) (entries : List (Taped (Named WrittenBlock))) : Type 0 where
  pub numbers_are : map (λ (t : Taped (Named WrittenBlock)). t.number) entries ≡ map (λ (j : Job). j.number) jobs
  pub answers : map (λ (t : Taped (Named WrittenBlock)). t.named) entries ≡ map answer_of jobs
  pub workers : All (λ (t : Taped (Named WrittenBlock)). t.worker ≡ 0) entries
  pub seen : All (λ (t : Taped (Named WrittenBlock)). t.seen ≡ t.number) entries

-- the tape of some jobs, by as many workers as a run may have and inside its windows
abbrev pub IsTapeFrom : List Job → ℕ → Work → List (Taped (Named WrittenBlock)) → Type 0
IsTapeFrom jobs first work entries = IsTape jobs first (most_workers work.threads) work.window work.most entries

-- what was made of so many blocks from one on
pub record AreOfBlocks (p : Plan) (first count : ℕ) (entries : List (Taped (Named WrittenBlock))) : Type 0 where
  pub count_is : length entries ≡ count
  pub answers : map (λ (t : Taped (Named WrittenBlock)). t.named) entries ≡ map answer_of (take count (drop first p.jobs))

-- what was made of the first of so many blocks, up to one of which nothing was made where there are fewer
pub record AreUpTo (p : Plan) (first count : ℕ) (entries : List (Taped (Named WrittenBlock))) : Type 0 where
  pub of : AreOfBlocks p first (length entries) entries
  pub few : length entries ≤ count
  pub short : length entries < count → AreMade entries → ⊥

-- nothing was made of the block of a number
abbrev pub IsUnmadeAs : Named WrittenBlock → ℕ → Type 0
IsUnmadeAs named number = (named ≡ Bad number) ⊎ (named ≡ Short number)

-- it is the first such block
pub record IsFirstUnmade (entries : List (Taped (Named WrittenBlock))) (number : ℕ) : Type 0 where
  pub at : ℕ
  pub entry : Taped (Named WrittenBlock)
  pub there : slice_get entries at ≡ Some entry
  pub unmade : IsUnmadeAs entry.named number
  pub before : AreMade (take at entries)

-- how many blocks the tiles from one on have
pub record AreCounts (p : Plan) (tile : ℕ) (counts : List ℕ) : Type 0 where
  pub inside : tile + length counts ≤ tile_number p.stream.siz
  pub each : (i count : ℕ) → slice_get counts i ≡ Some count → count ≡ blocks_in p (tile + i)

-- and all of them, which are in the round that began at the first of them
pub record AreOfRound (p : Plan) (tile : ℕ) (counts : List ℕ) (blocks : ℕ) : Type 0 where
  pub counts_are : AreCounts p tile counts
  pub blocks_are : first_block p tile + blocks ≡ first_block p (tile + length counts)
  pub round : (t : ℕ) → tile ≤ t → t < tile + length counts → IsInRound p t tile

-- a tile in a round that began at another: the blocks that it has before the tile, and the room for bytes that is left
pub record IsRoundAt (p : Plan) (at start count room : ℕ) : Type 0 where
  pub bytes : ℕ
  pub is : round_in p at ≡ record { start = start; blocks = count; bytes = bytes }
  pub room_is : bytes + room ≡ most_read

-- the tiles of a round
pub record IsExtent (p : Plan) (tile : ℕ) (counts : List ℕ) (blocks : ℕ) : Type 0 where
  pub of : AreOfRound p tile counts blocks
  pub some : 0 < length counts
  pub ends : EndsRound p (tile + length counts)

-- the tile-parts of some tiles, each of them made of pieces
abbrev pub parts_of : List (List (List (List ℕ))) → List (List ℕ)
parts_of tiles = flat_map (map concat) tiles

-- what the tape says of a block
abbrev pub entry_of : Taped (Named WrittenBlock) → TapeEntry
entry_of t = record { number = t.number; worker = t.worker; seen = t.seen }

-- entries that lead from a tape to a longer one
abbrev pub TapesOn : Plan → Work → ℕ → ℕ → List TapeEntry → Type 0
TapesOn p work from next entries = (tape : List TapeEntry) → HasTape p work from tape → HasTape p work next (tape ++ entries)
