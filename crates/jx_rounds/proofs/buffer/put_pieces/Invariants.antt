use Rattle.std.proofs.Common.{◌≡◌, [], ◌++◌, drop, slice_index_or}
use Rattle.std.specs.List.{concat}
use Rattle.jx_rounds.specs.Taken.{HasTaken}
use Rattle.jx_rounds.proofs.buffer.put_pieces.Given as goal

abbrev pub invariant-loop-piece : goal.invariant-loop-piece
invariant-loop-piece g l = record {
  so_far : HasTaken (g.W.ByteWriter.written l.initial.writer) (g.W.ByteWriter.written l.writer) (concat (slice_index_or l.tile l.part [])) (l.buffer.items ++ concat (drop l.piece (slice_index_or l.tile l.part [])));
  may : g.W.ByteWriter.can_write (g.W.ByteWriter.kept l.writer);
  same : g.W.ByteWriter.faults l.writer ≡ g.W.ByteWriter.faults l.initial.writer;
  other : g.W.ByteWriter.kept l.writer ≡ g.W.ByteWriter.kept l.initial.writer;
}
