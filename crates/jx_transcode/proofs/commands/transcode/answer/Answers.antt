use Rattle.std.proofs.Common.{◌≡◌, ◌∙◌, ◌+◌, List, ap, arith, inl, inr, length, refl, sym}
use Rattle.jx_base.specs.declared.pieces.Block.{Block}
use Rattle.jx_rounds.proofs.FrontLemmas.{planned_few}
use Rattle.jx_transcode.specs.declared.status.Status.TheVariants as status
use Rattle.jx_transcode.proofs.AroundLemmas.{around_ends}
use Rattle.jx_transcode.proofs.JudgeLemmas.{content_short}
use Rattle.jx_transcode.proofs.MisfitLemmas.{each_told, told_on, untold}
use Rattle.jx_transcode.proofs.ReducedLemmas.{all_unread, all_unwritten}
use Rattle.jx_transcode.proofs.RefusedLemmas.{plan_unread, plan_unwritten}
use Rattle.jx_transcode.proofs.SourceLemmas.{left_bare, left_boxed, lies_bare, lies_boxed, unfit_apart, unfit_bare, unfit_jp2, unfit_undone, unplanned_bare, unplanned_jp2, unplanned_misfit, unreduced_bare, unreduced_jp2}
use Rattle.jx_transcode.proofs.commands.transcode.answer.Goals as goal

pub overflow_cast-count : goal.overflow_cast-count
overflow_cast-count g c = omega (arith, planned_few c.in-Ok.read.picture.stream c.in-Ok.read.picture.blocks.items c.in-Ok.ensures.may, ap (λ (bs : List Block). length bs) c.deref-all.ensures.value)

-- ---- refused
pub returns-in-Err-clause-bare : goal.returns-in-Err-clause-bare
returns-in-Err-clause-bare g c = λ not. rw (c.refused.ensures.status, c.refused.ensures.none.0, c.refused.ensures.none.1, c.refused.ensures.tape) (unfit_bare _ _ _ c.args.input.now c.in-Err.status _ not c.in-Err.ensures.err)

pub returns-in-Err-clause-jp2 : goal.returns-in-Err-clause-jp2
returns-in-Err-clause-jp2 g c = λ is. rw (c.refused.ensures.status, c.refused.ensures.none.0, c.refused.ensures.none.1, c.refused.ensures.tape) (unfit_jp2 _ _ _ _ c.args.input.now c.in-Err.status _ is c.in-Err.ensures.err)

pub returns-in-Err-clause-long : goal.returns-in-Err-clause-long
returns-in-Err-clause-long g c = λ long.
    let e = c.in-Err.ensures.long long in
    let is : c.in-Err.status ≡ status.Limit 1 (c.args.task.now.limit + 1) = cc in
    record { is = c.refused.ensures.status ∙ is; blocks_are = c.refused.ensures.none.0; bytes_are = c.refused.ensures.none.1; tape = c.refused.ensures.tape; same = refl }

pub returns-in-Err-clause-cause : goal.returns-in-Err-clause-cause
returns-in-Err-clause-cause g c = λ failed. absurd ((unfit_apart _ c.args.input.now c.in-Err.status c.in-Err.ensures.err).0 (sym c.refused.ensures.status ∙ failed))

pub returns-in-Err-clause-rose : goal.returns-in-Err-clause-rose
returns-in-Err-clause-rose g c = λ rose. absurd (omega (arith, rose))

pub returns-in-Err-clause-read : goal.returns-in-Err-clause-read
returns-in-Err-clause-read g c =
    let apart = unfit_apart _ c.args.input.now c.in-Err.status c.in-Err.ensures.err in (λ e. apart.1 (sym c.refused.ensures.status ∙ e), λ e. apart.2 (sym c.refused.ensures.status ∙ e))

pub returns-in-Err-clause-short : goal.returns-in-Err-clause-short
returns-in-Err-clause-short g c = λ done. absurd (unfit_undone _ c.args.input.now c.in-Err.status c.in-Err.ensures.err (sym c.refused.ensures.status ∙ done))

pub returns-in-Err-clause-misfit : goal.returns-in-Err-clause-misfit
returns-in-Err-clause-misfit g c = untold _ c.refused.result.misfit c.refused.ensures.misfit

-- ---- so many resolutions can't be left out
pub returns-in-Err-without_resolutions-clause-bare : goal.returns-in-Err-without_resolutions-clause-bare
returns-in-Err-without_resolutions-clause-bare g c = λ not. rw (c.unreduced_by.ensures.status, c.unreduced_by.ensures.blocks.0, c.unreduced_by.ensures.blocks.1, c.unreduced_by.ensures.tape)
    (unreduced_bare (record { may = c.gathered_may_be_planned.ensures; stream = c.whole_stays.ensures.stream; blocks = c.whole_stays.ensures.blocks; free = c.whole_stays.ensures.free })
    _ _ _ c.args.input.now c.in-Ok.read.source.boxed c.in-Ok.read.source.from c.in-Ok.read.source.codestream.now c.in-Ok.read.picture.stream c.in-Ok.read.picture.blocks.items c.in-Err-without_resolutions.fault _ _
    (record { within = c.in-Ok.ensures.within; short = omega (arith, c.in-Ok.ensures.within); lies = c.in-Ok.ensures.source.lies; reads = c.in-Ok.ensures.reads }) c.in-Err-without_resolutions.ensures.err (ap (λ (bs : List Block). length bs) c.deref-all.ensures.value) not)

pub returns-in-Err-without_resolutions-clause-jp2 : goal.returns-in-Err-without_resolutions-clause-jp2
returns-in-Err-without_resolutions-clause-jp2 g c = λ is. rw (c.unreduced_by.ensures.status, c.unreduced_by.ensures.blocks.0, c.unreduced_by.ensures.blocks.1, c.unreduced_by.ensures.tape)
    (unreduced_jp2 (record { may = c.gathered_may_be_planned.ensures; stream = c.whole_stays.ensures.stream; blocks = c.whole_stays.ensures.blocks; free = c.whole_stays.ensures.free })
    _ _ _ _ c.args.input.now c.in-Ok.read.source.boxed c.in-Ok.read.source.from c.in-Ok.read.source.codestream.now c.in-Ok.read.picture.stream c.in-Ok.read.picture.blocks.items c.in-Err-without_resolutions.fault _ _
    (record { within = c.in-Ok.ensures.within; short = omega (arith, c.in-Ok.ensures.within); lies = c.in-Ok.ensures.source.lies; reads = c.in-Ok.ensures.reads }) c.in-Err-without_resolutions.ensures.err (ap (λ (bs : List Block). length bs) c.deref-all.ensures.value) is)

pub returns-in-Err-without_resolutions-clause-long : goal.returns-in-Err-without_resolutions-clause-long
returns-in-Err-without_resolutions-clause-long g c = λ long. absurd (omega (arith, long, c.in-Ok.ensures.within))

pub returns-in-Err-without_resolutions-clause-cause : goal.returns-in-Err-without_resolutions-clause-cause
returns-in-Err-without_resolutions-clause-cause g c = λ failed. absurd (all_unwritten c.in-Err-without_resolutions.fault _ c.unreduced_by.ensures.status failed)

pub returns-in-Err-without_resolutions-clause-rose : goal.returns-in-Err-without_resolutions-clause-rose
returns-in-Err-without_resolutions-clause-rose g c = λ rose. absurd (omega (arith, rose))

pub returns-in-Err-without_resolutions-clause-read : goal.returns-in-Err-without_resolutions-clause-read
returns-in-Err-without_resolutions-clause-read g c = all_unread c.in-Err-without_resolutions.fault _ c.unreduced_by.ensures.status

pub returns-in-Err-without_resolutions-clause-short : goal.returns-in-Err-without_resolutions-clause-short
returns-in-Err-without_resolutions-clause-short g c = λ done. c.in-Ok.ensures.within

pub returns-in-Err-without_resolutions-clause-misfit : goal.returns-in-Err-without_resolutions-clause-misfit
returns-in-Err-without_resolutions-clause-misfit g c = untold _ c.unreduced_by.result.misfit c.unreduced_by.ensures.misfit

-- ---- what is left isn't planned
pub returns-in-Err-planned-clause-bare : goal.returns-in-Err-planned-clause-bare
returns-in-Err-planned-clause-bare g c = λ not. unplanned_bare _ _ _ c.args.input.now c.in-Ok.read.source.boxed c.in-Ok.read.source.from c.in-Ok.read.source.codestream.now c.in-Ok-without_resolutions.left.stream c.in-Ok-without_resolutions.left.blocks.items c.in-Err-planned.ending _
    (record { within = c.in-Ok.ensures.within; lies = c.in-Ok.ensures.source.lies; left = c.in-Ok-without_resolutions.ensures.ok c.in-Ok.read.source.codestream.now c.in-Ok.ensures.reads }) c.in-Err-planned.ensures.err not

pub returns-in-Err-planned-clause-jp2 : goal.returns-in-Err-planned-clause-jp2
returns-in-Err-planned-clause-jp2 g c = λ is. unplanned_jp2 _ _ _ _ c.args.input.now c.in-Ok.read.source.boxed c.in-Ok.read.source.from c.in-Ok.read.source.codestream.now c.in-Ok-without_resolutions.left.stream c.in-Ok-without_resolutions.left.blocks.items c.in-Err-planned.ending _
    (record { within = c.in-Ok.ensures.within; lies = c.in-Ok.ensures.source.lies; left = c.in-Ok-without_resolutions.ensures.ok c.in-Ok.read.source.codestream.now c.in-Ok.ensures.reads }) c.in-Err-planned.ensures.err is

pub returns-in-Err-planned-clause-long : goal.returns-in-Err-planned-clause-long
returns-in-Err-planned-clause-long g c = λ long. absurd (omega (arith, long, c.in-Ok.ensures.within))

pub returns-in-Err-planned-clause-cause : goal.returns-in-Err-planned-clause-cause
returns-in-Err-planned-clause-cause g c = λ failed. absurd (plan_unwritten c.in-Err-planned.ensures.err.why _ c.in-Err-planned.ensures.err.status_is failed)

pub returns-in-Err-planned-clause-rose : goal.returns-in-Err-planned-clause-rose
returns-in-Err-planned-clause-rose g c = λ rose. absurd (omega (arith, rose))

pub returns-in-Err-planned-clause-read : goal.returns-in-Err-planned-clause-read
returns-in-Err-planned-clause-read g c = plan_unread c.in-Err-planned.ensures.err.why _ c.in-Err-planned.ensures.err.status_is

pub returns-in-Err-planned-clause-short : goal.returns-in-Err-planned-clause-short
returns-in-Err-planned-clause-short g c = λ done. c.in-Ok.ensures.within

pub returns-in-Err-planned-clause-misfit : goal.returns-in-Err-planned-clause-misfit
returns-in-Err-planned-clause-misfit g c = told_on _ _ c.in-Err-planned.ending.misfit c.in-Err-planned.ending.misfit (each_told c.in-Err-planned.ending.misfit)
    (λ m by. unplanned_misfit c.args.task.now.options.now _ _ _ c.args.input.now c.in-Ok.read.source.boxed c.in-Ok.read.source.from c.in-Ok.read.source.codestream.now c.in-Ok-without_resolutions.left.stream c.in-Ok-without_resolutions.left.blocks.items c.in-Err-planned.ending m
    c.in-Ok.ensures.within c.in-Ok.ensures.source.lies (c.in-Ok-without_resolutions.ensures.ok c.in-Ok.read.source.codestream.now c.in-Ok.ensures.reads) c.in-Err-planned.ensures.err by) c.in-Err-planned.ensures.err.misfit

-- ---- a codestream
pub returns-in-None-clause-bare : goal.returns-in-None-clause-bare
returns-in-None-clause-bare g c = λ not. c.plans_are_carried_out.ensures.file _ _ _ c.args.input.now c.in-Ok-without_resolutions.left.stream c.in-Ok-without_resolutions.left.blocks.items c.in-Ok-planned.plan _ _ _ _ _ _ c.requires.task.0 c.in-Ok-planned.ensures.plan c.in-Ok.ensures.within
    (left_bare c.args.task.now.reduce c.args.input.now c.in-Ok.read.source.codestream.now c.in-Ok.read.source.boxed c.in-Ok.read.source.from c.in-Ok-without_resolutions.left.stream c.in-Ok-without_resolutions.left.blocks.items c.in-None.is c.in-Ok.ensures.source.lies
    (c.in-Ok-without_resolutions.ensures.ok c.in-Ok.read.source.codestream.now c.in-Ok.ensures.reads)) c.write_bare.ensures.carried

pub returns-in-None-clause-jp2 : goal.returns-in-None-clause-jp2
returns-in-None-clause-jp2 g c = λ is. absurd ((lies_bare c.args.input.now c.in-Ok.read.source.boxed c.in-Ok.read.source.from c.in-Ok.read.source.codestream.now c.in-None.is c.in-Ok.ensures.source.lies).0 is)

pub returns-in-None-clause-long : goal.returns-in-None-clause-long
returns-in-None-clause-long g c = λ long. absurd (omega (arith, long, c.in-Ok.ensures.within))

pub returns-in-None-clause-cause : goal.returns-in-None-clause-cause
returns-in-None-clause-cause g c = c.write_bare.ensures.cause

pub returns-in-None-clause-rose : goal.returns-in-None-clause-rose
returns-in-None-clause-rose g c = c.write_bare.ensures.rose

pub returns-in-None-clause-read : goal.returns-in-None-clause-read
returns-in-None-clause-read g c = c.write_bare.ensures.read

pub returns-in-None-clause-other : goal.returns-in-None-clause-other
returns-in-None-clause-other g c = c.write_bare.ensures.other

pub returns-in-None-clause-short : goal.returns-in-None-clause-short
returns-in-None-clause-short g c = λ done. c.in-Ok.ensures.within

pub returns-in-None-clause-misfit : goal.returns-in-None-clause-misfit
returns-in-None-clause-misfit g c = untold _ c.write_bare.result.misfit c.write_bare.ensures.misfit

-- ---- a JP2 file
pub write_around-requires-clause-within : goal.write_around-requires-clause-within
write_around-requires-clause-within g c = λ lifetimes within. omega (arith, c.in-Ok.ensures.within)

pub write_around-requires-clause-found : goal.write_around-requires-clause-found
write_around-requires-clause-found g c = λ lifetimes within. (lies_boxed c.args.input.now c.in-Ok.read.source.boxed c.in-Ok.read.source.from c.in-Ok.read.source.codestream.now c.in-Some.boxed c.in-Some.is c.in-Ok.ensures.source.lies).1

pub returns-clause-bare : goal.returns-clause-bare
returns-clause-bare g c = λ not. absurd (not (lies_boxed c.args.input.now c.in-Ok.read.source.boxed c.in-Ok.read.source.from c.in-Ok.read.source.codestream.now c.in-Some.boxed c.in-Some.is c.in-Ok.ensures.source.lies).0)

pub returns-clause-jp2 : goal.returns-clause-jp2
returns-clause-jp2 g c = λ is. inr (
  c.in-Some.boxed,
  around_ends _ _ _ _ c.args.input.now c.in-Some.boxed c.in-Ok-planned.plan _ _ _ _ _ _ c.in-Ok.ensures.within (lies_boxed c.args.input.now c.in-Ok.read.source.boxed c.in-Ok.read.source.from c.in-Ok.read.source.codestream.now c.in-Some.boxed c.in-Some.is c.in-Ok.ensures.source.lies).1
      (λ st out of. c.plans_are_carried_out.ensures.memory _ _ _ c.in-Ok-without_resolutions.left.stream c.in-Ok-without_resolutions.left.blocks.items c.in-Ok-planned.plan st _ out _ c.requires.task.0 c.in-Ok-planned.ensures.plan (content_short c.args.task.now.limit c.args.input.now c.in-Some.boxed c.in-Ok.ensures.within)
      (left_boxed c.args.task.now.reduce c.args.input.now c.in-Ok.read.source.codestream.now c.in-Ok.read.source.boxed c.in-Ok.read.source.from c.in-Ok-without_resolutions.left.stream c.in-Ok-without_resolutions.left.blocks.items c.in-Some.boxed c.in-Some.is c.in-Ok.ensures.source.lies
      (c.in-Ok-without_resolutions.ensures.ok c.in-Ok.read.source.codestream.now c.in-Ok.ensures.reads)) of) c.write_around.ensures.carried,
)

pub returns-clause-long : goal.returns-clause-long
returns-clause-long g c = λ long. absurd (omega (arith, long, c.in-Ok.ensures.within))

pub returns-clause-cause : goal.returns-clause-cause
returns-clause-cause g c = c.write_around.ensures.cause

pub returns-clause-rose : goal.returns-clause-rose
returns-clause-rose g c = c.write_around.ensures.rose

pub returns-clause-read : goal.returns-clause-read
returns-clause-read g c = c.write_around.ensures.read

pub returns-clause-other : goal.returns-clause-other
returns-clause-other g c = c.write_around.ensures.other

pub returns-clause-short : goal.returns-clause-short
returns-clause-short g c = λ done. c.in-Ok.ensures.within

pub returns-clause-misfit : goal.returns-clause-misfit
returns-clause-misfit g c = untold _ c.write_around.result.misfit c.write_around.ensures.misfit
