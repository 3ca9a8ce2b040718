-- The tape of a run: which worker had each code-block, and the first block that wasn't in sequence when it was claimed.
use Rattle.std.specs.Prelude.{◌≡◌, ◌<◌, ◌≤◌, List, length, map}
use Rattle.std.specs.List.{All}
use Rattle.jx_base.specs.declared.pieces.Block.{Block}
use Rattle.jx_base.specs.Pieces.{bytes_in}
use Rattle.jx_store.specs.Order.{numbers}
use Rattle.jx_store.specs.Setup.{Setup, Within}
use Rattle.jx_options.specs.Work.{Work, most_workers}
use Rattle.jx_rounds.specs.declared.tape.TapeEntry.{TapeEntry}

-- all blocks as one store would have them: their numbers from 0 on, the bytes of their pieces, and both windows
abbrev pub setup_of : Work → List Block → Setup
setup_of work blocks = record { first = 0; sizes = map (λ (b : Block). bytes_in b.pieces) blocks; window = work.window; most = work.most }

-- the entries of the first blocks, in their order, each once; each by one of the workers, and claimed inside both windows
pub record IsTapeOf (work : Work) (blocks : List Block) (tape : List TapeEntry) : Type 0 where
  pub order : map (λ (t : TapeEntry). t.number) tape ≡ numbers 0 (length tape)
  pub few : length tape ≤ length blocks
  pub workers : All (λ (t : TapeEntry). t.worker < most_workers work.threads) tape
  pub within : All (λ (t : TapeEntry). Within (setup_of work blocks) t.seen t.number) tape
