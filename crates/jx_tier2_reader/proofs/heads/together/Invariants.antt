use Rattle.std.proofs.Common.{◌≡◌, ◌+◌, drop}
use Rattle.jx_codestream.specs.PackedHeaders.{together}
use Rattle.jx_tier2_reader.proofs.heads.together.Given as goal

abbrev pub invariant-loop-piece : goal.invariant-loop-piece
invariant-loop-piece l = l.sum + together (drop l.piece-index l.pieces) ≡ together l.pieces
