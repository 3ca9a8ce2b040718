use Rattle.std.proofs.Common.{map}
use Rattle.jx_tier2_writer.proofs.SentLemmas.{body_next, sent_inside, sent_there}
use Rattle.jx_tier2_writer.proofs.packets.put_body.Goals as goal

pub block_at-block-requires : goal.block_at-block-requires
block_at-block-requires g c = sent_there g.B.Coded.bytes c.args.values.now c.args.row.now c.loop-sent.sent-index _ c.requires c.loop-sent-test.true

pub append-requires : goal.append-requires
append-requires g c =
    sent_inside (map g.B.Coded.bytes c.args.values.now) c.args.row.now c.loop-sent.sent-index _ (g.B.Coded.bytes c.block_at-block.result.now) c.requires c.loop-sent-test.true c.block_at-block.ensures.bytes

pub loop-sent-preserved : goal.loop-sent-preserved
loop-sent-preserved g c =
    body_next (map g.B.Coded.bytes c.args.values.now) c.args.row.now c.loop-sent.sent-index _ c.loop-sent.out.items c.append.new.out.items _ (g.B.Coded.bytes c.block_at-block.result.now) c.loop-sent-test.true
    c.block_at-block.ensures.bytes c.in_ok-append.ensures.ok c.loop-sent.invariant
