use Rattle.std.proofs.Common.{◌≡◌, ◌+◌, drop, map}
use Rattle.jx_base.specs.Pieces.{bytes_in, value_of}
use Rattle.jx_rounds.proofs.crew.left_after.Given as goal

abbrev pub invariant-loop-piece : goal.invariant-loop-piece
invariant-loop-piece l = l.left + bytes_in (map value_of l.pieces) ≡ l.room + bytes_in (map value_of (drop l.piece-index l.pieces))
