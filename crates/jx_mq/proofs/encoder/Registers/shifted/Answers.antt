use Rattle.std.proofs.Common.{◌≡◌, ◌*◌, ◌%◌, ◌^◌, refl, arith}
use Rattle.jx_mq.proofs.Shifts.{wide_shifted}
use Rattle.jx_mq.proofs.encoder.Registers.shifted.Goals as goal

pub returns-clause-registers : goal.returns-clause-registers
returns-clause-registers c older =
    let w = wide_shifted c.args.self.a c.args.by c.requires.wide c.requires.narrow in
    let fits : c.args.self.c * 2 ^ c.args.by % 4294967296 ≡ c.args.self.c * 2 ^ c.args.by = omega (arith, c.requires.room) in
    rw (w.whole, w.upper, fits) refl

pub returns-clause-wide : goal.returns-clause-wide
returns-clause-wide c =
    let w = wide_shifted c.args.self.a c.args.by c.requires.wide c.requires.narrow in
    rw w.whole w.wide
