use Rattle.std.proofs.Common.{◌≡◌, ◌++◌, map, drop}
use Rattle.jx_base.specs.Pieces.{value_of}
use Rattle.jx_codeblock.specs.Tables.{bytes_joined}
use Rattle.jx_codeblock.proofs.segments.joined.Given as goal

abbrev pub invariant-loop-piece : goal.invariant-loop-piece
invariant-loop-piece l =
    l.bytes.items ++ bytes_joined (map value_of (drop l.piece-index l.pieces)) ≡ bytes_joined (map value_of l.pieces)
