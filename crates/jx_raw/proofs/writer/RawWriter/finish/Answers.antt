use Rattle.std.proofs.Common.{sym, arith}
use Rattle.jx_raw.proofs.Back.{shifted_whole, finished_begun, finished_stuffed, finished_plain}
use Rattle.jx_raw.proofs.writer.RawWriter.finish.Goals as goal

pub returns-then-count-gt0 : goal.returns-then-count-gt0
returns-then-count-gt0 c =
    rw (c.in_ok-push.ensures.items, shifted_whole c.self.inside.bytes.items c.self.inside.partial c.self.inside.count c.self.inside.width c.self.invariant, ← c.self.view_is) (sym (finished_begun _ _ _ _ c.self.invariant c.if-count-gt0.true))

pub returns-then-width-eq7 : goal.returns-then-width-eq7
returns-then-width-eq7 c =
    rw (c.in_ok-push-2.ensures.items, ← c.self.view_is) (sym (finished_stuffed _ _ _ _ c.self.invariant (omega arith) c.if-width-eq7.true))

pub returns : goal.returns
returns c = rw (← c.self.view_is) (sym (finished_plain _ _ _ _ c.self.invariant (omega arith) c.if-width-eq7.false))
