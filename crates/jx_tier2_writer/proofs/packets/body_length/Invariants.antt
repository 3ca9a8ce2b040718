use Rattle.std.proofs.Common.{◌≡◌, ◌+◌, ◌*◌, ◌≤◌, ◌^◌, ℕ, List, drop, length}
use Rattle.jx_tier2_writer.specs.BlockParts.{AreBlockParts, row_bytes}
use Rattle.jx_tier2_writer.proofs.packets.body_length.Given as goal

abbrev pub invariant-loop-sent : goal.invariant-loop-sent
invariant-loop-sent l =
    (l.sum ≤ l.sent-index * 2 ^ 32)
    × ((datas : List (List ℕ)) → AreBlockParts datas l.row → l.sum + length (row_bytes datas (drop l.sent-index l.row)) ≡ length (row_bytes datas l.row))
