-- What a codestream has: blocks, or a first violated rule or passed limit.
use Rattle.std.specs.Prelude.{ℕ, List}
use Rattle.jx_base.specs.declared.pieces.Block.{Block}
use Rattle.jx_codestream.specs.declared.Stream.{Stream}
use Rattle.jx_codestream.specs.declared.faults.StreamFault.{StreamFault}
use Rattle.jx_tier2_reader.specs.Gathered.{IsGathered, IsBroken}

abbrev pub HasBlocks : List ℕ → Stream → Type 0
HasBlocks b s = (blocks : List Block) × IsGathered b s blocks

abbrev pub HasFault : List ℕ → Stream → Type 0
HasFault b s = (fault : StreamFault) × IsBroken b s fault
