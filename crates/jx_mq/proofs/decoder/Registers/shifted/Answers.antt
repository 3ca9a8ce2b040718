use Rattle.jx_mq.proofs.Shifts.{wide_shifted}
use Rattle.jx_mq.proofs.decoder.Registers.shifted.Goals as goal

pub returns-clause-registers : goal.returns-clause-registers
returns-clause-registers c =
    let w = wide_shifted c.args.self.a c.args.by c.requires.wide c.requires.room in
    rw (w.whole, w.upper)

pub returns-clause-wide : goal.returns-clause-wide
returns-clause-wide c =
    let w = wide_shifted c.args.self.a c.args.by c.requires.wide c.requires.room in
    rw w.whole w.wide
