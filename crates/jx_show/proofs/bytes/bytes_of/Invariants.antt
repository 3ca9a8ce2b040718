use Rattle.std.proofs.Common.{◌≡◌, ◌+◌, map, drop}
use Rattle.jx_base.specs.Pieces.{value_of, bytes_in}
use Rattle.jx_show.proofs.bytes.bytes_of.Given as goal

abbrev pub invariant-loop-piece : goal.invariant-loop-piece
invariant-loop-piece l = l.bytes + bytes_in (map value_of (drop l.piece-index l.pieces)) ≡ bytes_in (map value_of l.pieces)
