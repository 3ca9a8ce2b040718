use Rattle.std.proofs.Common.{◌≡◌, ◌+◌, length, true, arith, ap}
use Rattle.jx_jp2.specs.declared.Boxed.{Boxed}
use Rattle.jx_jp2.specs.Heads.{length_at}
use Rattle.jx_jp2.proofs.HeadLemmas.{sound}
use Rattle.jx_jp2.proofs.NameLemmas.{before_next, kinds_to_broken, kinds_to_end}
use Rattle.jx_jp2.proofs.naming.kinds_of.Goals as goal

pub returns-in_default : goal.returns-in_default
returns-in_default c = kinds_to_broken c.args.bytes.now c.loop-at.at c.loop-at.kinds.items c.in_default.field-0 c.loop-at.invariant c.loop-at-test.true c.in_default.ensures.broken

pub tbox-requires : goal.tbox-requires
tbox-requires c =
    let s = sound c.args.bytes.now true (length c.args.bytes.now) c.loop-at.at (omega arith) c.in-Ok.ensures.sound in
    omega (arith, s.head)

pub loop-at-smaller : goal.loop-at-smaller
loop-at-smaller c =
    let s = sound c.args.bytes.now true (length c.args.bytes.now) c.loop-at.at (omega arith) c.in-Ok.ensures.sound in
    let end : c.in-Ok.boxed.to ≡ c.loop-at.at + length_at c.args.bytes.now c.loop-at.at = ap (λ (b : Boxed). b.to) c.in-Ok.ensures.boxed in
    omega (arith, s.grows, s.ends, end)

pub loop-at-preserved : goal.loop-at-preserved
loop-at-preserved c =
    before_next c.args.bytes.now c.loop-at.at c.tbox.result c.loop-at.kinds.items c.push.new.self.items c.in-Ok.boxed c.loop-at.invariant c.loop-at-test.true c.in-Ok.ensures.sound
    c.in-Ok.ensures.boxed c.tbox.ensures c.in_ok-push.ensures.items

pub returns : goal.returns
returns c = kinds_to_end c.args.bytes.now c.loop-at.at c.loop-at.kinds.items c.loop-at.invariant c.loop-at-test.false
