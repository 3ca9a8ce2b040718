use Rattle.jx_tier2_writer.proofs.EntryLemmas.{lent_next}
use Rattle.jx_tier2_writer.proofs.entries.blocks_of.Goals as goal

pub loop-entry-preserved : goal.loop-entry-preserved
loop-entry-preserved c =
    lent_next c.loop-entry.list.items c.push.new.self.items c.block_in.result c.args.entries.now c.loop-entry.entry-index c.entry-item.result c.in_ok-push.ensures.items c.loop-entry-test.true
    c.entry-item.is c.block_in.ensures c.loop-entry.invariant
