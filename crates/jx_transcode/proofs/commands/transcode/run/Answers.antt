use Rattle.jx_transcode.proofs.OutcomeLemmas.{ends_as, ends_read, ends_refused, ends_said}
use Rattle.std.proofs.Common.{arith, rules}
use Rattle.jx_rounds.proofs.WriteLemmas.{unrisen}
use Rattle.jx_transcode.proofs.MisfitLemmas.{each_told, misfit_told, none_still, still_said, told_on, untold}
use Rattle.jx_transcode.proofs.PositionsLemmas.{done_said, positions_told, positions_untold, unread_undone}
use Rattle.jx_transcode.proofs.SaidLemmas.{read_said, rose_said, unread_said, unsaid, write_said}
use Rattle.jx_transcode.proofs.StatusLemmas.{failed_unread, unread_either, unread_failed, unread_unwritten}
use Rattle.jx_transcode.proofs.commands.transcode.run.Goals as goal

pub returns-in-Ok-clause-ends : goal.returns-in-Ok-clause-ends
returns-in-Ok-clause-ends g c = rw (c.say_ending.ensures.blocks, c.say_ending.ensures.tape) (ends_said c.args.request.now _ c.answer-ending.result.status c.say_ending.result.status c.answer-ending.result.blocks
    c.answer-ending.result.bytes c.answer-ending.result.tape.items _ _ _ _ _ _
    (ends_as c.args.request.now _ _ _ _ _ _ _ _ _ _ _ _ _ _ c.from.ensures c.to.ensures c.options.ensures c.work.ensures c.form.ensures c.reduce.ensures c.limit.ensures
    (ends_read (record { from = c.from.result.now; to = c.to.result.now; wanted = c.options.result.now; work = c.work.result; form = c.form.result; reduce = c.reduce.result; limit = c.limit.result }) _ c.deref-input.result.now _ _ _ _ _ (g.F.Files.meaning c.read_input.new.files) _
    (rw c.deref-input.ensures.value c.in-Ok.ensures.bytes) c.in-Ok.ensures.same c.answer-ending.ensures.bare c.answer-ending.ensures.jp2 c.answer-ending.ensures.long))
    c.say_ending.ensures.says)

pub returns-in-Ok-clause-read : goal.returns-in-Ok-clause-read
returns-in-Ok-clause-read g c = read_said _ _ _ _ _ _ _ (λ failed. absurd (c.answer-ending.ensures.read.0 failed)) c.say_ending.ensures.says

pub returns-in-Ok-clause-write : goal.returns-in-Ok-clause-write
returns-in-Ok-clause-write g c = write_said _ _ _ _ _ _ _ (rw (← c.in-Ok.ensures.other) c.answer-ending.ensures.cause) c.say_ending.ensures.says

pub returns-in-Ok-clause-unsaid : goal.returns-in-Ok-clause-unsaid
returns-in-Ok-clause-unsaid g c = unsaid _ _ _ _ _ _ _ c.say_ending.ensures.says

pub returns-in-Err-clause-ends : goal.returns-in-Err-clause-ends
returns-in-Err-clause-ends g c = rw (c.say_ending-in-Err.ensures.blocks, c.say_ending-in-Err.ensures.tape) (ends_said c.args.request.now _ c.unread.result.status c.say_ending-in-Err.result.status c.unread.result.blocks
    c.unread.result.bytes c.unread.result.tape.items _ _ _ _ _ _
    (ends_refused c.args.request.now _ c.in-Err.refused c.unread.result.status c.unread.result.blocks c.unread.result.bytes c.unread.result.tape.items _ _ c.unread.ensures.status c.unread.ensures.none c.unread.ensures.tape
    c.in-Err.ensures.same)
    c.say_ending-in-Err.ensures.says)

pub returns-in-Err-clause-read : goal.returns-in-Err-clause-read
returns-in-Err-clause-read g c = read_said _ _ _ _ _ _ _ (λ failed. c.in-Err.ensures.cause.failed (unread_failed c.in-Err.refused _ c.unread.ensures.status failed)) c.say_ending-in-Err.ensures.says

pub returns-in-Err-clause-write : goal.returns-in-Err-clause-write
returns-in-Err-clause-write g c = write_said _ _ _ _ _ _ _ (λ failed. absurd (unread_unwritten c.in-Err.refused _ c.unread.ensures.status failed)) c.say_ending-in-Err.ensures.says

pub returns-in-Err-clause-unsaid : goal.returns-in-Err-clause-unsaid
returns-in-Err-clause-unsaid g c = unsaid _ _ _ _ _ _ _ c.say_ending-in-Err.ensures.says

pub returns-in-Ok-clause-read_rose : goal.returns-in-Ok-clause-read_rose
returns-in-Ok-clause-read_rose g c = λ rose. absurd (omega (arith, unrisen _ _ _ c.in-Ok.ensures.cause, c.answer-ending.ensures.other, rose))

pub returns-in-Ok-clause-write_rose : goal.returns-in-Ok-clause-write_rose
returns-in-Ok-clause-write_rose g c = λ rose. c.say_ending.ensures.failed (c.answer-ending.ensures.rose (rw c.in-Ok.ensures.other rose))

pub returns-in-Ok-clause-positions : goal.returns-in-Ok-clause-positions
returns-in-Ok-clause-positions g c =
    positions_told c.args.request.now c.say_ending.result.positions c.keeps_positions-positions.result c.answer-ending.result.status c.say_ending.result.status (g.F.Files.meaning c.args.files.now) c.deref-input.result.now
    (rw (c.deref-input.ensures.value, ← c.from.ensures, ← c.limit.ensures) c.in-Ok.ensures.bytes) (rw (← c.limit.ensures) c.answer-ending.ensures.short) (rw c.form.ensures at c.keeps_positions-positions.ensures) c.say_ending.ensures.positions
    (done_said _ _ _ _ _ _ _ c.say_ending.ensures.says)

pub returns-in-Err-clause-read_rose : goal.returns-in-Err-clause-read_rose
returns-in-Err-clause-read_rose g c = λ rose. rose_said _ _ _ _ _ _ _ (failed_unread c.in-Err.refused _ c.unread.ensures.status (c.in-Err.ensures.cause.rose rose)) c.say_ending-in-Err.ensures.says

pub returns-in-Err-clause-write_rose : goal.returns-in-Err-clause-write_rose
returns-in-Err-clause-write_rose g c = λ rose. absurd (omega (arith, c.in-Err.ensures.other, rose))

pub returns-in-Err-clause-positions : goal.returns-in-Err-clause-positions
returns-in-Err-clause-positions g c =
    positions_untold c.args.request.now c.say_ending-in-Err.result.positions c.say_ending-in-Err.result.status (g.F.Files.meaning c.args.files.now) (λ told. let both = c.say_ending-in-Err.ensures.positions.0 told in cc)
    (λ done. unread_undone c.unread.result.status (unread_either c.in-Err.refused _ c.unread.ensures.status) (done_said _ _ _ _ _ _ _ c.say_ending-in-Err.ensures.says done))

pub returns-in-Ok-clause-absent : goal.returns-in-Ok-clause-absent
returns-in-Ok-clause-absent g c = λ absent. absurd (c.in-Ok.ensures.there (rw c.from.ensures absent))

pub returns-in-Err-clause-absent : goal.returns-in-Err-clause-absent
returns-in-Err-clause-absent g c = λ absent. unread_said _ _ _ _ _ _ _ (unread_either c.in-Err.refused _ c.unread.ensures.status) c.say_ending-in-Err.ensures.says

pub returns-in-Ok-clause-misfit : goal.returns-in-Ok-clause-misfit
returns-in-Ok-clause-misfit g c =
    told_on _ _ c.say_ending.result.misfit c.say_ending.result.misfit (each_told c.say_ending.result.misfit)
    (λ m is. misfit_told c.args.request.now c.options.result.now c.reduce.result c.limit.result c.deref-input.result.now c.answer-ending.result.status c.say_ending.result.status (g.F.Files.meaning c.args.files.now) c.answer-ending.result.misfit m
    (rw (c.deref-input.ensures.value, ← c.from.ensures) c.in-Ok.ensures.bytes) c.options.ensures c.reduce.ensures c.limit.ensures c.answer-ending.ensures.misfit (is.0, still_said _ _ _ _ _ _ _ c.say_ending.ensures.says is.1))
    c.say_ending.ensures.misfit

pub returns-in-Err-clause-misfit : goal.returns-in-Err-clause-misfit
returns-in-Err-clause-misfit g c = untold _ c.say_ending-in-Err.result.misfit (none_still c.unread.result.misfit c.say_ending-in-Err.result.misfit _ c.unread.ensures.misfit c.say_ending-in-Err.ensures.misfit)

pub answer-ending-requires-clause-task : goal.answer-ending-requires-clause-task
answer-ending-requires-clause-task g c = λ lifetimes within. (rw c.options.ensures c.requires.wanted, omega (arith, c.reduce.ensures, c.requires.few), search rules)

pub returns-in-Ok-clause-uncreated : goal.returns-in-Ok-clause-uncreated
returns-in-Ok-clause-uncreated g c = λ absent. absurd (c.in-Ok.ensures.there (rw c.from.ensures absent))

pub returns-in-Err-clause-uncreated : goal.returns-in-Err-clause-uncreated
returns-in-Err-clause-uncreated g c = λ absent. c.in-Err.ensures.same
