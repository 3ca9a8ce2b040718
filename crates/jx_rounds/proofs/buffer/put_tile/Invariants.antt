use Rattle.std.proofs.Common.{◌≡◌, [], drop, map}
use Rattle.std.specs.List.{concat}
use Rattle.jx_rounds.specs.Taken.{HasTaken}
use Rattle.jx_rounds.proofs.buffer.put_tile.Given as goal

abbrev pub invariant-loop-part : goal.invariant-loop-part
invariant-loop-part g l = record {
  so_far : HasTaken (g.W.ByteWriter.written l.initial.writer) (g.W.ByteWriter.written l.writer) (concat (map concat l.tile)) (concat (map concat (drop l.part l.tile)));
  empty : l.buffer.items ≡ [];
  may : g.W.ByteWriter.can_write (g.W.ByteWriter.kept l.writer);
  same : g.W.ByteWriter.faults l.writer ≡ g.W.ByteWriter.faults l.initial.writer;
  other : g.W.ByteWriter.kept l.writer ≡ g.W.ByteWriter.kept l.initial.writer;
}
