use Rattle.std.proofs.Common.{arith}
use Rattle.jx_rounds.proofs.WriteLemmas.{unrisen}
use Rattle.jx_transcode.proofs.SameLemmas.{answer_unread, second_answered, second_unfit, second_unfit_unread, second_unread}
use Rattle.jx_transcode.proofs.StatusLemmas.{failed_unread, unread_either, unread_failed}
use Rattle.jx_transcode.proofs.commands.same.compare_second.Goals as goal

pub returns-in-Err-clause-told : goal.returns-in-Err-clause-told
returns-in-Err-clause-told g c = second_unread c.args.limit c.args.name.now c.args.stream.now c.args.blocks.now c.unread_as.result _ _ (unread_either c.in-Err.refused _ c.unread_as.ensures) c.in-Err.ensures.same

pub returns-in-Err-clause-read : goal.returns-in-Err-clause-read
returns-in-Err-clause-read g c = λ failed. c.in-Err.ensures.cause.failed (unread_failed c.in-Err.refused _ c.unread_as.ensures failed)

pub returns-in-Err-clause-absent : goal.returns-in-Err-clause-absent
returns-in-Err-clause-absent g c = λ absent. unread_either c.in-Err.refused _ c.unread_as.ensures

pub returns-in-Err-clause-read_rose : goal.returns-in-Err-clause-read_rose
returns-in-Err-clause-read_rose g c = λ rose. failed_unread c.in-Err.refused _ c.unread_as.ensures (c.in-Err.ensures.cause.rose rose)

pub returns-in-Ok-read_checked-clause-told : goal.returns-in-Ok-read_checked-clause-told
returns-in-Ok-read_checked-clause-told g c = second_answered c.compare.result c.args.limit c.args.name.now c.deref.result.now c.args.stream.now c.args.blocks.now c.in-Ok-read_checked.second.picture.stream c.in-Ok-read_checked.second.picture.blocks.items c.answer_status.result _ _
    c.answer_status.ensures (rw c.deref.ensures.value c.in-Ok.ensures.bytes) c.in-Ok.ensures.same c.in-Ok-read_checked.ensures.ok (rw c.deref-others.ensures.value at c.compare.ensures.first)

pub returns-in-Ok-read_checked-clause-read : goal.returns-in-Ok-read_checked-clause-read
returns-in-Ok-read_checked-clause-read g c = λ failed. absurd (answer_unread c.compare.result _ c.answer_status.ensures failed)

pub returns-in-Ok-read_checked-clause-absent : goal.returns-in-Ok-read_checked-clause-absent
returns-in-Ok-read_checked-clause-absent g c = λ absent. absurd (c.in-Ok.ensures.there absent)

pub returns-in-Ok-read_checked-clause-read_rose : goal.returns-in-Ok-read_checked-clause-read_rose
returns-in-Ok-read_checked-clause-read_rose g c = λ rose. absurd (omega (arith, unrisen _ _ _ c.in-Ok.ensures.cause, rose))

pub returns-clause-told : goal.returns-clause-told
returns-clause-told g c = second_unfit c.args.limit c.args.name.now c.deref.result.now c.args.stream.now c.args.blocks.now c.in-Err-read_checked.status c.second_status.result _ _ c.second_status.ensures (rw c.deref.ensures.value c.in-Ok.ensures.bytes)
    c.in-Ok.ensures.same c.in-Err-read_checked.ensures.err

pub returns-clause-read : goal.returns-clause-read
returns-clause-read g c = λ failed. absurd (second_unfit_unread c.args.limit c.deref.result.now c.in-Err-read_checked.status _ c.second_status.ensures c.in-Err-read_checked.ensures.err failed)

pub returns-clause-absent : goal.returns-clause-absent
returns-clause-absent g c = λ absent. absurd (c.in-Ok.ensures.there absent)

pub returns-clause-read_rose : goal.returns-clause-read_rose
returns-clause-read_rose g c = λ rose. absurd (omega (arith, unrisen _ _ _ c.in-Ok.ensures.cause, rose))
