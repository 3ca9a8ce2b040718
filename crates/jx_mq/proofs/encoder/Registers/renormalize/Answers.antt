use Rattle.std.proofs.Common.{◌∙◌, ap, arith}
use Rattle.jx_mq.specs.declared.encoder.Registers.{Registers}
use Rattle.jx_mq.proofs.Renormals.{renormalizing_begins}
use Rattle.jx_mq.proofs.Shifts.{short_of, short_some}
use Rattle.jx_mq.proofs.Outs.{c_room, renormalized_last, coder_last}
use Rattle.jx_mq.proofs.encoder.Registers.renormalize.Goals as goal

pub give-requires-clause-shifts : goal.give-requires-clause-shifts
give-requires-clause-shifts c =
    let some = c.requires.coding.bounded.some in
    short_of c.args.part.a c.requires.wide (omega arith) (omega arith)

pub shifted-last-requires-clause-narrow : goal.shifted-last-requires-clause-narrow
shifted-last-requires-clause-narrow c =
    let some = c.requires.coding.bounded.some in
    (short_of c.args.part.a c.requires.wide (omega arith) (omega arith)).few

pub shifted-last-requires-clause-room : goal.shifted-last-requires-clause-room
shifted-last-requires-clause-room c =
    let less = c.if-shifts-part.false in
    c_room _ _ (omega arith) c.requires.coding

pub returns-clause-registers : goal.returns-clause-registers
returns-clause-registers c =
    let some = c.requires.coding.bounded.some in
    let short = short_of c.args.part.a c.requires.wide (omega arith) (omega arith) in
    rw (← c.shifted-last.ensures.newest ∙ ap (λ (r : Registers). r.newest) c.requires.same, c.shifted-last.ensures.registers c.args.older.now.items)
    (renormalized_last _ _ _ c.if-shifts-part.false short (renormalizing_begins _ c.requires.coding (short_some _ _ short).1))

pub returns-clause-coder : goal.returns-clause-coder
returns-clause-coder c =
    let some = c.requires.coding.bounded.some in
    let short = short_of c.args.part.a c.requires.wide (omega arith) (omega arith) in
    rw (← c.shifted-last.ensures.newest ∙ ap (λ (r : Registers). r.newest) c.requires.same, c.shifted-last.ensures.registers c.args.older.now.items)
    (coder_last _ _ _ c.if-shifts-part.false short (renormalizing_begins _ c.requires.coding (short_some _ _ short).1))
