use Rattle.std.proofs.Common.{◌∙◌, List, ap, arith, inl, length, sym}
use Rattle.jx_base.specs.declared.pieces.Block.{Block}
use Rattle.jx_rounds.proofs.FrontLemmas.{planned_few}
use Rattle.jx_rounds.proofs.WriteLemmas.{unrisen}
use Rattle.jx_transcode.proofs.SameLemmas.{both_told, first_unfit, first_unread, second_not_first, second_unwritten, unfit_of_first, unfit_unread, unread_not_first}
use Rattle.jx_transcode.proofs.StatusLemmas.{failed_unread, unread_either, unread_failed, unread_unwritten}
use Rattle.jx_transcode.proofs.commands.same.compare_files.Goals as goal

pub returns-in-Err-clause-told : goal.returns-in-Err-clause-told
returns-in-Err-clause-told g c = first_unread c.args.names.now c.unread_as.result _ _ (unread_either c.in-Err.refused _ c.unread_as.ensures) c.in-Err.ensures.same

pub returns-in-Err-clause-read : goal.returns-in-Err-clause-read
returns-in-Err-clause-read g c = λ failed. c.in-Err.ensures.cause.failed (unread_failed c.in-Err.refused _ c.unread_as.ensures failed)

pub returns-in-Err-clause-write : goal.returns-in-Err-clause-write
returns-in-Err-clause-write g c = unread_unwritten c.in-Err.refused _ c.unread_as.ensures

pub returns-in-Err-clause-absent : goal.returns-in-Err-clause-absent
returns-in-Err-clause-absent g c = λ absent. unread_either c.in-Err.refused _ c.unread_as.ensures

pub returns-in-Err-clause-absent_too : goal.returns-in-Err-clause-absent_too
returns-in-Err-clause-absent_too g c = λ absent. inl (unread_either c.in-Err.refused _ c.unread_as.ensures)

pub returns-in-Err-clause-read_rose : goal.returns-in-Err-clause-read_rose
returns-in-Err-clause-read_rose g c = λ rose. failed_unread c.in-Err.refused _ c.unread_as.ensures (c.in-Err.ensures.cause.rose rose)

pub returns-in-Ok-read_checked-clause-told : goal.returns-in-Ok-read_checked-clause-told
returns-in-Ok-read_checked-clause-told g c =
    both_told c.args.names.now c.deref.result.now c.in-Ok-read_checked.accepted.picture.stream c.in-Ok-read_checked.accepted.picture.blocks.items c.compare_second-status.result _ _ _ _ (rw (sym c.first.ensures, sym c.limit-limit.ensures, c.deref.ensures.value) c.in-Ok.ensures.bytes) c.in-Ok.ensures.same
    (rw (sym c.limit-limit.ensures) c.in-Ok-read_checked.ensures.ok) (ap (λ (bs : List Block). length bs) c.deref-blocks.ensures.value) (rw (c.deref-blocks.ensures.value, c.second.ensures, c.limit-limit.ensures) at c.compare_second-status.ensures.told)

pub returns-in-Ok-read_checked-clause-read : goal.returns-in-Ok-read_checked-clause-read
returns-in-Ok-read_checked-clause-read g c = λ failed. rw (unrisen _ _ _ c.in-Ok.ensures.cause) at (c.compare_second-status.ensures.read failed)

pub returns-in-Ok-read_checked-clause-write : goal.returns-in-Ok-read_checked-clause-write
returns-in-Ok-read_checked-clause-write g c = second_unwritten _ _ _ _ _ _ _ c.compare_second-status.ensures.told

pub returns-in-Ok-read_checked-clause-absent : goal.returns-in-Ok-read_checked-clause-absent
returns-in-Ok-read_checked-clause-absent g c = λ absent. absurd (c.in-Ok.ensures.there (rw c.first.ensures absent))

pub returns-in-Ok-read_checked-clause-absent_too : goal.returns-in-Ok-read_checked-clause-absent_too
returns-in-Ok-read_checked-clause-absent_too g c = λ absent. inl (c.compare_second-status.ensures.absent (rw c.second.ensures (c.in-Ok.ensures.same.holds _ ∙ absent)))

pub returns-in-Ok-read_checked-clause-read_rose : goal.returns-in-Ok-read_checked-clause-read_rose
returns-in-Ok-read_checked-clause-read_rose g c = λ rose. c.compare_second-status.ensures.read_rose (omega (arith, unrisen _ _ _ c.in-Ok.ensures.cause, rose))

pub returns-in-Ok-read_checked-clause-other : goal.returns-in-Ok-read_checked-clause-other
returns-in-Ok-read_checked-clause-other g c = c.compare_second-status.ensures.other ∙ c.in-Ok.ensures.other

pub returns-clause-told : goal.returns-clause-told
returns-clause-told g c = first_unfit c.args.names.now c.deref.result.now c.in-Err-read_checked.status _ _ (rw (sym c.first.ensures, sym c.limit-limit.ensures, c.deref.ensures.value) c.in-Ok.ensures.bytes) c.in-Ok.ensures.same (rw (sym c.limit-limit.ensures) c.in-Err-read_checked.ensures.err)

pub returns-clause-read : goal.returns-clause-read
returns-clause-read g c = λ failed. absurd ((unfit_unread c.limit-limit.result c.deref.result.now c.in-Err-read_checked.status c.in-Err-read_checked.ensures.err).0 failed)

pub returns-clause-write : goal.returns-clause-write
returns-clause-write g c = (unfit_unread c.limit-limit.result c.deref.result.now c.in-Err-read_checked.status c.in-Err-read_checked.ensures.err).1

pub returns-clause-absent : goal.returns-clause-absent
returns-clause-absent g c = λ absent. absurd (c.in-Ok.ensures.there (rw c.first.ensures absent))

pub returns-clause-absent_too : goal.returns-clause-absent_too
returns-clause-absent_too g c = λ absent. unfit_of_first c.limit-limit.result c.deref.result.now c.in-Err-read_checked.status c.in-Err-read_checked.ensures.err

pub returns-clause-read_rose : goal.returns-clause-read_rose
returns-clause-read_rose g c = λ rose. absurd (omega (arith, unrisen _ _ _ c.in-Ok.ensures.cause, rose))

pub overflow_cast-result : goal.overflow_cast-result
overflow_cast-result g c = omega (arith, planned_few c.in-Ok-read_checked.accepted.picture.stream c.in-Ok-read_checked.accepted.picture.blocks.items c.in-Ok-read_checked.ensures.may, ap (λ (bs : List Block). length bs) c.deref-blocks.ensures.value)

pub returns-in-Err-clause-unopened : goal.returns-in-Err-clause-unopened
returns-in-Err-clause-unopened g c = λ of. absurd (unread_not_first _ (unread_either c.in-Err.refused _ c.unread_as.ensures) of)

pub returns-in-Ok-read_checked-clause-unopened : goal.returns-in-Ok-read_checked-clause-unopened
returns-in-Ok-read_checked-clause-unopened g c = λ of. absurd (second_not_first _ _ _ _ _ _ _ c.compare_second-status.ensures.told of)

pub returns-clause-unopened : goal.returns-clause-unopened
returns-clause-unopened g c = λ of. (c.in-Ok.held.items, rw (sym c.first.ensures) c.in-Ok.ensures.left)
