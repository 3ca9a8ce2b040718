use Rattle.std.proofs.Common.{◌≡◌, ◌++◌, drop, map}
use Rattle.jx_tier2_writer.specs.BlockParts.{row_bytes}
use Rattle.jx_tier2_writer.proofs.packets.put_body.Given as goal

abbrev pub invariant-loop-sent : goal.invariant-loop-sent
invariant-loop-sent g l =
    l.out.items ++ row_bytes (map g.B.Coded.bytes l.values) (drop l.sent-index l.row) ≡ l.initial.out.items ++ row_bytes (map g.B.Coded.bytes l.values) l.row
