use Rattle.std.proofs.Common.{◌/◌, arith}
use Rattle.jx_mq.specs.Coding.{writer_of}
use Rattle.jx_mq.proofs.Bounds.{part_coding}
use Rattle.jx_mq.proofs.encoder.MqEncoder.bit.Goals as goal

pub renormalize-requires-clause-coding : goal.renormalize-requires-clause-coding
renormalize-requires-clause-coding c =
    let some = c.width_of.ensures.some in
    let most = c.width_of.ensures.most in
    let low = c.self.invariant.1.low in
    rw (c.narrowed-part.ensures.registers c.self.inside.older.items)
    (part_coding (writer_of c.self.inside.registers c.self.inside.older.items) (c.width_of.result / 65536) _ (omega arith) (omega arith) c.self.invariant.1.coding)
