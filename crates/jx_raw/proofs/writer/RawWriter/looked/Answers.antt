use Rattle.std.proofs.Common.{◌≡◌, ◌+◌, length, sym, ◌∙◌, arith}
use Rattle.jx_raw.proofs.Told.{looked_whole, looked_begun}
use Rattle.jx_raw.proofs.writer.RawWriter.looked.Goals as goal

pub returns-then-self-gt0 : goal.returns-then-self-gt0
returns-then-self-gt0 c =
    let long = c.len.ensures in
    let e : c.len.result + 1 ≡ length c.self.inside.bytes.items + 1 = omega arith in
    e ∙ rw (← c.self.view_is) (sym (looked_begun _ _ _ _ c.self.invariant c.if-self-gt0.true))

pub returns : goal.returns
returns c =
    let long = c.len-2.ensures in
    let e : c.len-2.result ≡ length c.self.inside.bytes.items = omega arith in
    e ∙ rw (← c.self.view_is) (sym (looked_whole _ _ _ _ c.self.invariant (omega arith)))
