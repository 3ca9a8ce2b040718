use Rattle.std.proofs.Common.{◌≡◌, [], drop}
use Rattle.std.specs.List.{concat}
use Rattle.jx_rounds.specs.MadeRounds.{parts_of}
use Rattle.jx_rounds.specs.Taken.{HasTaken}
use Rattle.jx_rounds.proofs.buffer.put_tiles.Given as goal

abbrev pub invariant-loop-tile : goal.invariant-loop-tile
invariant-loop-tile g l = record {
  so_far : HasTaken (g.W.ByteWriter.written l.initial.writer) (g.W.ByteWriter.written l.writer) (concat (parts_of l.tiles)) (concat (parts_of (drop l.tile-index l.tiles)));
  empty : l.buffer.items ≡ [];
  may : g.W.ByteWriter.can_write (g.W.ByteWriter.kept l.writer);
  same : g.W.ByteWriter.faults l.writer ≡ g.W.ByteWriter.faults l.initial.writer;
  other : g.W.ByteWriter.kept l.writer ≡ g.W.ByteWriter.kept l.initial.writer;
}
