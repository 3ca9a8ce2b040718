-- Codestreams that are read whole: no rule from 1 to 31 is violated, nor rule 37, and none of the limits 3 to 6 is passed.
use Rattle.std.specs.Prelude.{◌≡◌, ℕ, List, None}
use Rattle.jx_base.specs.declared.pieces.Block.{Block}
use Rattle.jx_codestream.specs.declared.Stream.{Stream}
use Rattle.jx_codestream.specs.Read.{IsRead}
use Rattle.jx_tile.specs.Totals.{totals_fault}
use Rattle.jx_tier2_reader.specs.Gathered.{IsGathered}

pub record IsAccepted (b : List ℕ) (s : Stream) : Type 0 where
  pub read : IsRead b s
  pub totals : totals_fault s ≡ None
  pub blocks : List Block
  pub gathered : IsGathered b s blocks
