use Rattle.std.proofs.Common.{◌≡◌, ◌++◌, ◌+◌, ◌∷◌, map, drop}
use Rattle.jx_base.specs.Pieces.{value_of, bytes_in}
use Rattle.jx_codeblock.specs.Tables.{rows}
use Rattle.jx_codeblock.proofs.sent.by_pieces.Given as goal

abbrev pub invariant-loop-piece : goal.invariant-loop-piece
invariant-loop-piece l = record {
  listed : l.table.items ++ rows l.sent (map value_of (drop l.piece-index l.pieces)) ≡ 0 ∷ rows 0 (map value_of l.pieces);
  bytes : l.sent + bytes_in (map value_of (drop l.piece-index l.pieces)) ≡ bytes_in (map value_of l.pieces);
}
