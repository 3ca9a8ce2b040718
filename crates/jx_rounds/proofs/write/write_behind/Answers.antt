use Rattle.std.proofs.Common.{rules, arith, ◌≡◌, ◌∙◌, ◌+◌, length}
use Rattle.std.proofs.lemmas.Result.{IfOk-weaker, on_ok_weaker}
use Rattle.jx_rounds.proofs.TakenLemmas.{no_front}
use Rattle.jx_rounds.proofs.WriteLemmas.{fault_halted, held_cut, held_front, on_fault, same_err}
use Rattle.jx_rounds.proofs.write.write_behind.Goals as goal

pub returns-in_default-clause-err : goal.returns-in_default-clause-err
returns-in_default-clause-err g c = λ p first before long held wrote. held_cut p before c.args.held.now first _ _ held wrote (no_front _ _)

pub write_end-requires : goal.write_end-requires
write_end-requires g c = record { may = rw c.put.ensures.other c.requires.may }

pub returns-in-Ok-clause-ok : goal.returns-in-Ok-clause-ok
returns-in-Ok-clause-ok g c =
    let counted : c.in-Some.before ≡ c.args.head + length c.args.held.now = search rules in
    IfOk-weaker c.write_end.result _ _ (λ bytes whole. λ p first before long held wrote. whole p before first
    (held_front p before c.args.held.now c.in-Some.before first (g.W.ByteWriter.written c.args.writer.now) (g.W.ByteWriter.written c.put.new.writer) held wrote c.in-Ok.ensures.ok (omega (arith, counted, long)))) c.write_end.ensures.ok

pub returns-in-Ok-clause-err : goal.returns-in-Ok-clause-err
returns-in-Ok-clause-err g c =
    let counted : c.in-Some.before ≡ c.args.head + length c.args.held.now = search rules in
    on_fault c.write_end.result _ _ c.write_end.ensures.err c.write_end.ensures.fault (λ h halted fault. λ p first before long held wrote. fault_halted p before h first _ fault (halted p before first
    (held_front p before c.args.held.now c.in-Some.before first (g.W.ByteWriter.written c.args.writer.now) (g.W.ByteWriter.written c.put.new.writer) held wrote c.in-Ok.ensures.ok (omega (arith, counted, long)))))

pub returns-in-Ok-clause-cause : goal.returns-in-Ok-clause-cause
returns-in-Ok-clause-cause g c = rw (← c.in-Ok.ensures.same) c.write_end.ensures.cause

pub returns-in-Ok-clause-rose : goal.returns-in-Ok-clause-rose
returns-in-Ok-clause-rose g c = rw (← c.in-Ok.ensures.same) c.write_end.ensures.rose

pub returns-in-Ok-clause-same : goal.returns-in-Ok-clause-same
returns-in-Ok-clause-same g c = on_ok_weaker c.write_end.result (λ same. same ∙ c.in-Ok.ensures.same) c.write_end.ensures.same

pub returns-in-Ok-clause-other : goal.returns-in-Ok-clause-other
returns-in-Ok-clause-other g c = c.write_end.ensures.other ∙ c.put.ensures.other

pub returns-in-Err-clause-err : goal.returns-in-Err-clause-err
returns-in-Err-clause-err g c = λ p first before long held wrote. held_cut p before c.args.held.now first _ _ held wrote c.in-Err.ensures.front

pub returns-in-Err-clause-fault : goal.returns-in-Err-clause-fault
returns-in-Err-clause-fault g c = c.in-Err.ensures.fault

pub returns-in-Err-clause-cause : goal.returns-in-Err-clause-cause
returns-in-Err-clause-cause g c = λ failed. c.in-Err.ensures.cause (same_err _ _ failed)

pub returns-in-Err-clause-rose : goal.returns-in-Err-clause-rose
returns-in-Err-clause-rose g c = λ rose. same_err _ _ (c.in-Err.ensures.rose rose)

pub returns-in-Err-clause-other : goal.returns-in-Err-clause-other
returns-in-Err-clause-other g c = c.put.ensures.other
