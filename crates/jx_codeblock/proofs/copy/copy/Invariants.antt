use Rattle.std.proofs.Common.{◌≡◌, ◌≤◌, ◌++◌, map, take, drop, length}
use Rattle.std.specs.Prelude.{vec_capacity}
use Rattle.jx_base.specs.Pieces.{value_of}
use Rattle.jx_codeblock.specs.Tables.{bytes_joined}
use Rattle.jx_codeblock.proofs.copy.copy.Given as goal

abbrev pub invariant-loop-piece : goal.invariant-loop-piece
invariant-loop-piece l = record {
  copied : l.out.items ++ take l.now.1 (drop l.now.0 (bytes_joined (map value_of (drop l.piece-index l.pieces))))
      ≡ l.initial.out.items ++ take l.initial.left (drop l.initial.skip (bytes_joined (map value_of l.pieces)));
  before : take (length l.initial.out.items) l.out.items ≡ l.initial.out.items;
  room : vec_capacity l.initial.out ≤ vec_capacity l.out;
}
