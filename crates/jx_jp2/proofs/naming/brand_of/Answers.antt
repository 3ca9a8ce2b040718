use Rattle.std.proofs.Common.{◌≡◌, ◌+◌, length, true, arith, ap}
use Rattle.jx_jp2.specs.declared.Boxed.{Boxed}
use Rattle.jx_jp2.specs.Heads.{length_at}
use Rattle.jx_jp2.proofs.HeadLemmas.{sound}
use Rattle.jx_jp2.proofs.naming.brand_of.Goals as goal

pub tbox-requires : goal.tbox-requires
tbox-requires c =
    let s = sound c.args.bytes.now true (length c.args.bytes.now) 12 (omega arith) c.in-Ok.ensures.sound in
    omega (arith, s.head)

pub u32_at-requires : goal.u32_at-requires
u32_at-requires c =
    let s = sound c.args.bytes.now true (length c.args.bytes.now) 12 (omega arith) c.in-Ok.ensures.sound in
    let end : c.in-Ok.boxed.to ≡ 12 + length_at c.args.bytes.now 12 = ap (λ (b : Boxed). b.to) c.in-Ok.ensures.boxed in
    omega (arith, s.ends, end, c.if-boxed.true)
