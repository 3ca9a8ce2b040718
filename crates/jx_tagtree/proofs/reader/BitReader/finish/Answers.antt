use Rattle.std.proofs.Common.{sym}
use Rattle.jx_tagtree.proofs.HeaderLemmas.{end_here, end_past, end_fault}
use Rattle.jx_tagtree.proofs.reader.BitReader.finish.Goals as goal

pub returns-then-self : goal.returns-then-self
returns-then-self c = rw (← c.self.view_is, c.in_default.is)
    (sym (end_here c.self.inside.bytes.now c.self.inside.used c.self.inside.last c.self.inside.left c.self.invariant c.if-self.true))

pub returns-in-Ok : goal.returns-in-Ok
returns-in-Ok c = rw (← c.self.view_is, c.in_default.is)
    (sym (end_past c.self.inside.bytes.now c.self.inside.used c.self.inside.last c.self.inside.left c.in-Ok.field-0 c.self.invariant c.if-self.false c.in-Ok.ensures.ok.0 c.in-Ok.ensures.ok.1))

pub returns-in-Err : goal.returns-in-Err
returns-in-Err c = rw (← c.self.view_is, c.in_default.is)
    (sym (end_fault c.self.inside.bytes.now c.self.inside.used c.self.inside.last c.self.inside.left c.in-Err.fault c.self.invariant c.if-self.false c.in-Err.ensures.err))
