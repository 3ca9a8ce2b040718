use Rattle.std.proofs.Common.{◌∙◌, List, ap, arith, length}
use Rattle.jx_codeblock.specs.declared.job.Job.{Job}
use Rattle.jx_rounds.proofs.FrontLemmas.{jobs_few}
use Rattle.jx_transcode.proofs.AroundLemmas.{ends_in}
use Rattle.jx_transcode.proofs.rewrite.made_in_memory.Goals as goal

pub overflow_cast-count : goal.overflow_cast-count
overflow_cast-count g c = omega (arith, jobs_few c.args.plan.now c.jobs-jobs.ensures.plan, ap (λ (js : List Job). length js) c.jobs-jobs.ensures.value)

pub anew_in-requires : goal.anew_in-requires
anew_in-requires g c = omega (arith, jobs_few c.args.plan.now c.jobs-jobs.ensures.plan, ap (λ (js : List Job). length js) c.jobs-jobs.ensures.value)

pub returns : goal.returns
returns g c = rw (c.made_of.ensures.blocks, c.made_of.ensures.tape) (record {
  plan = c.requires.plan;
  count = ap (λ (js : List Job). length js) c.jobs-jobs.ensures.value ∙ c.requires.plan.all;
  tape = c.write_memory-written.ensures.tape;
  ends = ends_in c.write_memory-written.result _ c.args.plan.now _ _ _ c.made_of.ensures.ok c.made_of.ensures.err c.write_memory-written.ensures.ok c.write_memory-written.ensures.err c.write_memory-written.ensures.whole
      c.write_memory-written.ensures.taped;
})
