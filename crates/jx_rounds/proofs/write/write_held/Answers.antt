use Rattle.std.proofs.Common.{◌∙◌, refl}
use Rattle.std.proofs.lemmas.Result.{IfOk-weaker, on_err_weaker, on_ok_weaker}
use Rattle.jx_rounds.proofs.WriteLemmas.{held_head_cut, same_err}
use Rattle.jx_rounds.proofs.write.write_held.Goals as goal

pub write_behind-requires : goal.write_behind-requires
write_behind-requires g c = record { may = rw c.put.ensures.other c.requires.may }

pub returns-in-Ok-clause-ok : goal.returns-in-Ok-clause-ok
returns-in-Ok-clause-ok g c = IfOk-weaker c.write_behind.result _ _ (λ bytes whole. λ p held. whole p (g.W.ByteWriter.written c.args.writer.now) c.args.head.now refl held c.in-Ok.ensures.ok) c.write_behind.ensures.ok

pub returns-in-Ok-clause-err : goal.returns-in-Ok-clause-err
returns-in-Ok-clause-err g c = on_err_weaker c.write_behind.result (λ cut. λ p held. cut p (g.W.ByteWriter.written c.args.writer.now) c.args.head.now refl held c.in-Ok.ensures.ok) c.write_behind.ensures.err

pub returns-in-Ok-clause-cause : goal.returns-in-Ok-clause-cause
returns-in-Ok-clause-cause g c = rw (← c.in-Ok.ensures.same) c.write_behind.ensures.cause

pub returns-in-Ok-clause-rose : goal.returns-in-Ok-clause-rose
returns-in-Ok-clause-rose g c = rw (← c.in-Ok.ensures.same) c.write_behind.ensures.rose

pub returns-in-Ok-clause-same : goal.returns-in-Ok-clause-same
returns-in-Ok-clause-same g c = on_ok_weaker c.write_behind.result (λ same. same ∙ c.in-Ok.ensures.same) c.write_behind.ensures.same

pub returns-in-Ok-clause-other : goal.returns-in-Ok-clause-other
returns-in-Ok-clause-other g c = c.write_behind.ensures.other ∙ c.put.ensures.other

pub returns-in-Err-clause-err : goal.returns-in-Err-clause-err
returns-in-Err-clause-err g c = λ p held. held_head_cut p c.args.head.now c.args.held.now _ _ held c.in-Err.ensures.front

pub returns-in-Err-clause-fault : goal.returns-in-Err-clause-fault
returns-in-Err-clause-fault g c = c.in-Err.ensures.fault

pub returns-in-Err-clause-cause : goal.returns-in-Err-clause-cause
returns-in-Err-clause-cause g c = λ failed. c.in-Err.ensures.cause (same_err _ _ failed)

pub returns-in-Err-clause-rose : goal.returns-in-Err-clause-rose
returns-in-Err-clause-rose g c = λ rose. same_err _ _ (c.in-Err.ensures.rose rose)

pub returns-in-Err-clause-other : goal.returns-in-Err-clause-other
returns-in-Err-clause-other g c = c.put.ensures.other
