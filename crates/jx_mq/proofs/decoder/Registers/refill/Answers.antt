use Rattle.std.proofs.Common.{◌∙◌, ap, arith}
use Rattle.jx_mq.specs.declared.decoder.Registers.{Registers}
use Rattle.jx_mq.proofs.Refills.{refilling_begins}
use Rattle.jx_mq.proofs.Shifts.{short_of, short_some, refilled_last}
use Rattle.jx_mq.proofs.decoder.Registers.refill.Goals as goal

pub feed-requires-clause-shifts : goal.feed-requires-clause-shifts
feed-requires-clause-shifts c = short_of c.args.part.a c.requires.wide c.requires.some (omega arith)

pub shifted-last-requires-clause-room : goal.shifted-last-requires-clause-room
shifted-last-requires-clause-room c = (short_of c.args.part.a c.requires.wide c.requires.some (omega arith)).few

pub returns-clause-registers : goal.returns-clause-registers
returns-clause-registers c =
    let short = short_of c.args.part.a c.requires.wide c.requires.some (omega arith) in
    let some = short_some _ _ short in
    rw (← c.shifted-last.ensures.place ∙ ap (λ (r : Registers). r.place) c.requires.same, ← c.shifted-last.ensures.looked ∙ ap (λ (r : Registers). r.looked) c.requires.same, c.shifted-last.ensures.registers)
    (refilled_last _ _ _ _ c.shifted-last.ensures.fits c.if-shifts-part.false short (refilling_begins _ _ c.requires.within some.0 some.1))

pub returns-clause-reading : goal.returns-clause-reading
returns-clause-reading c =
    let short = short_of c.args.part.a c.requires.wide c.requires.some (omega arith) in
    let within = c.requires.within in
    let ct = within.ct in
    rw (← c.shifted-last.ensures.place ∙ ap (λ (r : Registers). r.place) c.requires.same, ← c.shifted-last.ensures.looked ∙ ap (λ (r : Registers). r.looked) c.requires.same, c.shifted-last.ensures.registers)
    (record {
      within = record { place = within.place; looked = within.looked; ct = omega arith };
      low = short.enough;
      high = short.few;
    })
