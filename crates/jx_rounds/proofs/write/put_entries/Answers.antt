use Rattle.std.proofs.Common.{arith}
use Rattle.jx_rounds.specs.MadeRounds.{entry_of}
use Rattle.jx_rounds.proofs.EntryLemmas.{drop_shorter, told_next}
use Rattle.jx_rounds.proofs.write.put_entries.Goals as goal

pub loop-entry-preserved : goal.loop-entry-preserved
loop-entry-preserved c = record {
  put = told_next entry_of c.loop-entry.tape.items c.push_reserved.new.self.items _ c.told_of.result c.args.entries.now c.loop-entry.entry-index c.entry-item.result c.push_reserved.ensures.items c.loop-entry-test.true
      c.entry-item.is c.told_of.ensures c.loop-entry.invariant.put;
  room = omega (
    arith,
    c.push_reserved.ensures.len,
    c.push_reserved.ensures.capacity,
    c.loop-entry.invariant.room,
    drop_shorter c.args.entries.now c.loop-entry.entry-index c.entry-item.result c.loop-entry-test.true c.entry-item.is,
  );
}
