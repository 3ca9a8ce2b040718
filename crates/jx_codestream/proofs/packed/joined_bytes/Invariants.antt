use Rattle.std.proofs.Common.{◌≡◌, take}
use Rattle.jx_codestream.specs.PackedHeaders.{joined_bytes}
use Rattle.jx_codestream.proofs.packed.joined_bytes.Given as goal

abbrev pub invariant-loop-piece : goal.invariant-loop-piece
invariant-loop-piece l = l.joined.items ≡ joined_bytes l.bytes (take l.piece-index l.pieces)
