-- Well-formed codestreams: no rule from 1 to 31 is violated, nor rule 37. The limits are no part of it.
use Rattle.std.specs.Prelude.{ℕ, List}
use Rattle.jx_base.specs.declared.pieces.Block.{Block}
use Rattle.jx_codestream.specs.declared.Stream.{Stream}
use Rattle.jx_codestream.specs.Spells.{Spells}
use Rattle.jx_tier2_reader.specs.Gathered.{IsGathered}

pub record IsWellFormed (b : List ℕ) : Type 0 where
  pub stream : Stream
  pub spelled : Spells b stream
  pub blocks : List Block
  pub gathered : IsGathered b stream blocks
