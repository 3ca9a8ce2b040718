use Rattle.std.proofs.Common.{◌≡◌, ◌+◌, true, length, arith, sym, ap, ◌∙◌}
use Rattle.std.proofs.lemmas.Result.{err_from_is_err_and}
use Rattle.jx_jp2.specs.declared.Boxed.{Boxed}
use Rattle.jx_jp2.specs.Heads.{tbox, length_at}
use Rattle.jx_jp2.specs.Kinds.{jp2c}
use Rattle.jx_jp2.proofs.HeadLemmas.{sound}
use Rattle.jx_jp2.proofs.FindLemmas.{reached_next, found_here, broken_here, none_here}
use Rattle.jx_jp2.proofs.finding.next_codestream.Goals as goal

pub returns-in_err-boxed-clause-fault : goal.returns-in_err-boxed-clause-fault
returns-in_err-boxed-clause-fault c =
    let p = err_from_is_err_and c.from_residual.result c.from_residual.ensures.1 in
    rw (p.1, p.2) (broken_here c.args.bytes.now c.loop-at.at c.in_err-boxed.field-0.0 c.loop-at.invariant c.loop-at-test.true c.in_err-boxed.ensures.broken)

pub tbox-requires : goal.tbox-requires
tbox-requires c =
    let s = sound c.args.bytes.now true (length c.args.bytes.now) c.loop-at.at (omega arith) c.in_ok-boxed.ensures.sound in
    omega (arith, s.head)

pub returns-then-tbox-eq-JP2C-clause-found : goal.returns-then-tbox-eq-JP2C-clause-found
returns-then-tbox-eq-JP2C-clause-found c =
    found_here c.args.bytes.now c.loop-at.at c.in_ok-boxed.boxed c.loop-at.invariant c.loop-at-test.true c.in_ok-boxed.ensures.sound
    (sym c.tbox.ensures ∙ c.if-tbox-eq-JP2C.true) c.in_ok-boxed.ensures.boxed

pub loop-at-smaller : goal.loop-at-smaller
loop-at-smaller c =
    let s = sound c.args.bytes.now true (length c.args.bytes.now) c.loop-at.at (omega arith) c.in_ok-boxed.ensures.sound in
    let end : c.in_ok-boxed.boxed.to ≡ c.loop-at.at + length_at c.args.bytes.now c.loop-at.at = ap (λ (b : Boxed). b.to) c.in_ok-boxed.ensures.boxed in
    omega (arith, s.grows, s.ends, end)

pub loop-at-preserved : goal.loop-at-preserved
loop-at-preserved c =
    reached_next c.args.bytes.now c.loop-at.at c.in_ok-boxed.boxed c.loop-at.invariant c.loop-at-test.true c.in_ok-boxed.ensures.sound
    (λ (e : tbox c.args.bytes.now c.loop-at.at ≡ jp2c). c.if-tbox-eq-JP2C.false (c.tbox.ensures ∙ e)) c.in_ok-boxed.ensures.boxed

pub returns-clause-fault : goal.returns-clause-fault
returns-clause-fault c = none_here c.args.bytes.now c.loop-at.at c.loop-at.invariant c.loop-at-test.false
