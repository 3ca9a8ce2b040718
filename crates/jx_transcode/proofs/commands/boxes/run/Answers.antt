use Rattle.std.proofs.Common.{arith, sym}
use Rattle.jx_rounds.proofs.WriteLemmas.{unrisen}
use Rattle.jx_transcode.specs.declared.status.Status.TheVariants as status
use Rattle.jx_transcode.proofs.BoxesLemmas.{done_sound, listed_to_say, unlisted_to_say, unlisted_unread}
use Rattle.jx_transcode.proofs.LinesLemmas.{lines_said, refused_to_say}
use Rattle.jx_transcode.proofs.SaidLemmas.{read_said, rose_said, unread_said, unsaid, write_alone}
use Rattle.jx_transcode.proofs.StatusLemmas.{failed_unread, unread_either, unread_failed, unread_unwritten}
use Rattle.jx_transcode.proofs.commands.boxes.run.Goals as goal

pub returns-in-Err-clause-ends : goal.returns-in-Err-clause-ends
returns-in-Err-clause-ends g c = rw (c.refuse.ensures.none, c.refuse.ensures.tape)
    (lines_said _ _ c.args.asked.now.name c.unread_as.result c.refuse.result.status _ _ _ _ _ _ _ (refused_to_say _ _ c.args.asked.now.name c.in-Err.refused c.unread_as.result _ _ c.unread_as.ensures c.in-Err.ensures.same) c.refuse.ensures.ends)

pub returns-in-Err-clause-read : goal.returns-in-Err-clause-read
returns-in-Err-clause-read g c = read_said _ _ _ _ _ _ _ (λ failed. c.in-Err.ensures.cause.failed (unread_failed c.in-Err.refused _ c.unread_as.ensures failed)) c.refuse.ensures.ends

pub returns-in-Err-clause-write : goal.returns-in-Err-clause-write
returns-in-Err-clause-write g c = write_alone _ _ _ _ _ _ _ (unread_unwritten c.in-Err.refused _ c.unread_as.ensures) c.refuse.ensures.ends

pub returns-in-Err-clause-unsaid : goal.returns-in-Err-clause-unsaid
returns-in-Err-clause-unsaid g c = unsaid _ _ _ _ _ _ _ c.refuse.ensures.ends

pub returns-in-Ok-lines_of-clause-ends : goal.returns-in-Ok-lines_of-clause-ends
returns-in-Ok-lines_of-clause-ends g c = rw (c.say_lines.ensures.none, c.say_lines.ensures.tape)
    (lines_said _ _ c.args.asked.now.name status.Done c.say_lines.result.status c.as_str.result.now _ _ _ _ _ _
    (listed_to_say c.args.asked.now c.deref.result.now c.as_str.result.now _ _ (rw (sym c.name.ensures, sym c.limit-limit.ensures, c.deref.ensures.value) c.in-Ok.ensures.bytes) c.in-Ok.ensures.same (rw (sym c.limit-limit.ensures, c.as_str.ensures.value) c.in-Ok-lines_of.ensures.listed)) c.say_lines.ensures.says)

pub returns-in-Ok-lines_of-clause-read : goal.returns-in-Ok-lines_of-clause-read
returns-in-Ok-lines_of-clause-read g c = read_said _ _ _ _ _ _ _ (λ failed. absurd (done_sound.0 failed)) c.say_lines.ensures.says

pub returns-in-Ok-lines_of-clause-write : goal.returns-in-Ok-lines_of-clause-write
returns-in-Ok-lines_of-clause-write g c = write_alone _ _ _ _ _ _ _ done_sound.1 c.say_lines.ensures.says

pub returns-in-Ok-lines_of-clause-unsaid : goal.returns-in-Ok-lines_of-clause-unsaid
returns-in-Ok-lines_of-clause-unsaid g c = unsaid _ _ _ _ _ _ _ c.say_lines.ensures.says

pub returns-clause-ends : goal.returns-clause-ends
returns-clause-ends g c = rw (c.refuse-in-Err-lines_of.ensures.none, c.refuse-in-Err-lines_of.ensures.tape)
    (lines_said _ _ c.args.asked.now.name c.in-Err-lines_of.status c.refuse-in-Err-lines_of.result.status _ _ _ _ _ _ _
    (unlisted_to_say c.args.asked.now c.deref.result.now c.in-Err-lines_of.status _ _ (rw (sym c.name.ensures, sym c.limit-limit.ensures, c.deref.ensures.value) c.in-Ok.ensures.bytes) c.in-Ok.ensures.same (rw (sym c.limit-limit.ensures) c.in-Err-lines_of.ensures.refused)) c.refuse-in-Err-lines_of.ensures.ends)

pub returns-clause-read : goal.returns-clause-read
returns-clause-read g c = read_said _ _ _ _ _ _ _ (λ failed. absurd ((unlisted_unread c.limit-limit.result c.deref.result.now c.in-Err-lines_of.status c.in-Err-lines_of.ensures.refused).0 failed)) c.refuse-in-Err-lines_of.ensures.ends

pub returns-clause-write : goal.returns-clause-write
returns-clause-write g c = write_alone _ _ _ _ _ _ _ (unlisted_unread c.limit-limit.result c.deref.result.now c.in-Err-lines_of.status c.in-Err-lines_of.ensures.refused).1 c.refuse-in-Err-lines_of.ensures.ends

pub returns-clause-unsaid : goal.returns-clause-unsaid
returns-clause-unsaid g c = unsaid _ _ _ _ _ _ _ c.refuse-in-Err-lines_of.ensures.ends

pub returns-in-Err-clause-read_rose : goal.returns-in-Err-clause-read_rose
returns-in-Err-clause-read_rose g c = λ rose. rose_said _ _ _ _ _ _ _ (failed_unread c.in-Err.refused _ c.unread_as.ensures (c.in-Err.ensures.cause.rose rose)) c.refuse.ensures.ends

pub returns-in-Ok-lines_of-clause-read_rose : goal.returns-in-Ok-lines_of-clause-read_rose
returns-in-Ok-lines_of-clause-read_rose g c = λ rose. absurd (omega (arith, unrisen _ _ _ c.in-Ok.ensures.cause, rose))

pub returns-clause-read_rose : goal.returns-clause-read_rose
returns-clause-read_rose g c = λ rose. absurd (omega (arith, unrisen _ _ _ c.in-Ok.ensures.cause, rose))

pub returns-in-Err-clause-absent : goal.returns-in-Err-clause-absent
returns-in-Err-clause-absent g c = λ absent. unread_said _ _ _ _ _ _ _ (unread_either c.in-Err.refused _ c.unread_as.ensures) c.refuse.ensures.ends

pub returns-in-Ok-lines_of-clause-absent : goal.returns-in-Ok-lines_of-clause-absent
returns-in-Ok-lines_of-clause-absent g c = λ absent. absurd (c.in-Ok.ensures.there (rw c.name.ensures absent))

pub returns-clause-absent : goal.returns-clause-absent
returns-clause-absent g c = λ absent. absurd (c.in-Ok.ensures.there (rw c.name.ensures absent))
