use Rattle.jx_transcode.proofs.SaidLemmas.{read_said, rose_said, unread_said, unsaid, write_alone}
use Rattle.jx_transcode.proofs.SameLemmas.{compared_said, of_first_before, of_first_said}
use Rattle.jx_transcode.proofs.commands.same.run.Goals as goal

pub returns-clause-ends : goal.returns-clause-ends
returns-clause-ends g c = rw (c.say_told.ensures.blocks, c.say_told.ensures.tape)
    (compared_said c.args.names.now c.compare_files-told.result.status c.say_told.result.status c.compare_files-told.result.count _ _ _ _ _ _ c.compare_files-told.ensures.told c.say_told.ensures.says)

pub returns-clause-read : goal.returns-clause-read
returns-clause-read g c = read_said _ _ _ _ _ _ _ c.compare_files-told.ensures.read c.say_told.ensures.says

pub returns-clause-write : goal.returns-clause-write
returns-clause-write g c = write_alone _ _ _ _ _ _ _ c.compare_files-told.ensures.write c.say_told.ensures.says

pub returns-clause-unsaid : goal.returns-clause-unsaid
returns-clause-unsaid g c = unsaid _ _ _ _ _ _ _ c.say_told.ensures.says

pub returns-clause-absent : goal.returns-clause-absent
returns-clause-absent g c = λ absent. unread_said _ _ _ _ _ _ _ (c.compare_files-told.ensures.absent absent) c.say_told.ensures.says

pub returns-clause-absent_too : goal.returns-clause-absent_too
returns-clause-absent_too g c = λ absent. of_first_said _ _ _ _ _ _ _ (c.compare_files-told.ensures.absent_too absent) c.say_told.ensures.says

pub returns-clause-read_rose : goal.returns-clause-read_rose
returns-clause-read_rose g c = λ rose. rose_said _ _ _ _ _ _ _ (c.compare_files-told.ensures.read_rose rose) c.say_told.ensures.says

pub returns-clause-unopened : goal.returns-clause-unopened
returns-clause-unopened g c = λ of. c.compare_files-told.ensures.unopened (of_first_before _ _ _ _ _ _ _ c.say_told.ensures.says of)
