use Rattle.jx_transcode.proofs.MakeLemmas.{made_failed, made_read, made_said, made_short}
use Rattle.jx_transcode.proofs.SaidLemmas.{memory_read, memory_write, unsaid}
use Rattle.jx_transcode.proofs.commands.make.run.Goals as goal

pub returns-in_default-clause-ends : goal.returns-in_default-clause-ends
returns-in_default-clause-ends g c = λ files. rw (c.refuse.ensures.none, c.refuse.ensures.tape) (made_short c.args.asked _ _ _ _ files _ _ c.refuse.ensures.ends)

pub returns-in_default-clause-read : goal.returns-in_default-clause-read
returns-in_default-clause-read g c = memory_read _ _ _ _ _ _ c.refuse.ensures.ends

pub returns-in_default-clause-write : goal.returns-in_default-clause-write
returns-in_default-clause-write g c = memory_write _ _ _ _ _ _ c.refuse.ensures.ends

pub returns-in_default-clause-unsaid : goal.returns-in_default-clause-unsaid
returns-in_default-clause-unsaid g c = unsaid _ _ _ _ _ _ _ c.refuse.ensures.ends

pub returns-in-Ok-make-clause-ends : goal.returns-in-Ok-make-clause-ends
returns-in-Ok-make-clause-ends g c = λ files. rw (c.say_made.ensures.blocks, c.say_made.ensures.tape)
    (made_said c.args.asked _ c.transcoded-made.result.status c.say_made.result.status c.transcoded-made.result.blocks c.transcoded-made.result.before c.transcoded-made.result.after
    c.transcoded-made.result.total c.transcoded-made.result.tape.items _ _ files _ _ c.transcoded-made.ensures c.say_made.ensures.says)

pub returns-in-Ok-make-clause-read : goal.returns-in-Ok-make-clause-read
returns-in-Ok-make-clause-read g c = made_read c.args.asked _ c.transcoded-made.result.status c.say_made.result.status c.transcoded-made.result.blocks c.transcoded-made.result.before c.transcoded-made.result.after
    c.transcoded-made.result.total c.transcoded-made.result.tape.items _ _ _ _ _ c.transcoded-made.ensures c.say_made.ensures.says

pub returns-in-Ok-make-clause-write : goal.returns-in-Ok-make-clause-write
returns-in-Ok-make-clause-write g c = made_failed c.args.asked _ c.transcoded-made.result.status c.say_made.result.status c.transcoded-made.result.blocks c.transcoded-made.result.before c.transcoded-made.result.after
    c.transcoded-made.result.total c.transcoded-made.result.tape.items _ _ _ _ _ c.transcoded-made.ensures c.say_made.ensures.says

pub returns-in-Ok-make-clause-unsaid : goal.returns-in-Ok-make-clause-unsaid
returns-in-Ok-make-clause-unsaid g c = unsaid _ _ _ _ _ _ _ c.say_made.ensures.says

pub returns-clause-ends : goal.returns-clause-ends
returns-clause-ends g c = λ files. rw (c.refuse-in-Err.ensures.none, c.refuse-in-Err.ensures.tape) (made_short c.args.asked _ _ _ _ files _ _ c.refuse-in-Err.ensures.ends)

pub returns-clause-read : goal.returns-clause-read
returns-clause-read g c = memory_read _ _ _ _ _ _ c.refuse-in-Err.ensures.ends

pub returns-clause-write : goal.returns-clause-write
returns-clause-write g c = memory_write _ _ _ _ _ _ c.refuse-in-Err.ensures.ends

pub returns-clause-unsaid : goal.returns-clause-unsaid
returns-clause-unsaid g c = unsaid _ _ _ _ _ _ _ c.refuse-in-Err.ensures.ends
