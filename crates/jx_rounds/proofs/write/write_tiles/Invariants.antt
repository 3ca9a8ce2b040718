use Rattle.std.proofs.Common.{◌≡◌, ◌-◌, []}
use Rattle.jx_rounds.specs.Rounds.{EndsRound, HasRounds, HasTape, IsPlace}
use Rattle.jx_rounds.proofs.write.write_tiles.Given as goal

abbrev pub invariant-loop-mark : goal.invariant-loop-mark
invariant-loop-mark g l = record {
  rounds : HasRounds l.making 0 l.mark.tile l.header l.mark.bytes (g.W.ByteWriter.written l.initial.writer) (g.W.ByteWriter.written l.writer) l.initial.lengths l.lengths;
  place : IsPlace l.making l.mark.tile l.mark.block;
  ends : EndsRound l.making l.mark.tile;
  tape : HasTape l.making l.crew.work l.mark.block l.tape.items;
  buffer : l.buffer.items ≡ [];
  may : g.W.ByteWriter.can_write (g.W.ByteWriter.kept l.writer);
  same : g.W.ByteWriter.faults l.writer ≡ g.W.ByteWriter.faults l.initial.writer;
  other : g.W.ByteWriter.kept l.writer ≡ g.W.ByteWriter.kept l.initial.writer;
}

abbrev pub decreases-loop-mark : goal.decreases-loop-mark
decreases-loop-mark g l = l.tiles - l.mark.tile
