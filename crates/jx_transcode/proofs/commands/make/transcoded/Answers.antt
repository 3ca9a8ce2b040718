use Rattle.std.proofs.Common.{◌∙◌, ℕ, List, ap, arith, length, refl}
use Rattle.std.specs.List.{sum}
use Rattle.jx_transcode.specs.MakeRun.{aim_made, wanted_made, work_made}
use Rattle.jx_transcode.proofs.MadeSourceLemmas.{made_carried, made_reads, made_unfit, made_unplanned}
use Rattle.jx_transcode.proofs.MakeLemmas.{wanted_may, work_may}
use Rattle.jx_transcode.proofs.MisfitLemmas.{so}
use Rattle.jx_transcode.proofs.commands.make.transcoded.Goals as goal

pub planned-requires-clause-wanted : goal.planned-requires-clause-wanted
planned-requires-clause-wanted g c = wanted_may c.args.options.now c.requires.wanted

pub made_in_memory-made-requires-clause-work : goal.made_in_memory-made-requires-clause-work
made_in_memory-made-requires-clause-work g c = λ lifetimes within. work_may c.args.crew.now.work c.requires.work

-- ---- refused, or not planned
pub returns-in-Err : goal.returns-in-Err
returns-in-Err g c =
    rw (c.refused.ensures.status, c.refused.ensures.blocks, c.refused.ensures.tape) (made_unfit c.args.asked _ c.args.input.now c.in-Err.status _ _ _ c.requires.generated c.in-Err.ensures.err)

pub returns-in-Err-planned : goal.returns-in-Err-planned
returns-in-Err-planned g c = rw (c.refused-in-Err-planned.ensures.status, c.refused-in-Err-planned.ensures.blocks, c.refused-in-Err-planned.ensures.tape)
    (made_unplanned c.args.asked _ c.args.input.now c.in-Ok.read.picture.stream c.in-Ok.read.picture.blocks.items c.in-Err-planned.ending _ _ _ c.requires.generated (omega (arith, c.in-Ok.ensures.within))
    (c.all_is_left.ensures.left c.args.input.now c.in-Ok.read.picture.stream c.in-Ok.read.picture.blocks.items (omega (arith, c.in-Ok.ensures.within))
    (made_reads c.args.asked c.args.input.now c.in-Ok.read.source.boxed c.in-Ok.read.source.from c.in-Ok.read.source.codestream.now _ _ c.requires.generated c.in-Ok.ensures.source.lies c.in-Ok.ensures.reads))
    (so c.in-Err-planned.ensures.err (rw c.requires.wanted (λ is. is))))

-- ---- a plan that was written to memory, or wasn't
pub returns : goal.returns
returns g c =
    made_carried c.args.asked _ c.args.input.now c.args.crew.now.work c.in-Ok.read.picture.stream c.in-Ok.read.picture.blocks.items c.in-Ok-planned.plan c.made_in_memory-made.result.status c.made_in_memory-made.result.blocks _ _ _ c.made_in_memory-made.result.out.items _
    c.plans_are_carried_out.ensures.memory c.requires.generated c.requires.work (so c.in-Ok-planned.ensures.plan (rw c.requires.wanted (λ is. is))) (omega (arith, c.in-Ok.ensures.within))
    (c.all_is_left.ensures.left c.args.input.now c.in-Ok.read.picture.stream c.in-Ok.read.picture.blocks.items (omega (arith, c.in-Ok.ensures.within))
    (made_reads c.args.asked c.args.input.now c.in-Ok.read.source.boxed c.in-Ok.read.source.from c.in-Ok.read.source.codestream.now _ _ c.requires.generated c.in-Ok.ensures.source.lies c.in-Ok.ensures.reads))
    c.made_in_memory-made.ensures refl (c.len.ensures ∙ c.made_in_memory-made.result.out.ok.0) (c.sum_of.ensures ∙ ap (λ (bs : List ℕ). sum bs) c.deref.ensures.value)
