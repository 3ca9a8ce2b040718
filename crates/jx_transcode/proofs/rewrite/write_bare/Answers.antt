use Rattle.std.proofs.Common.{◌∙◌, List, ap, arith, length}
use Rattle.jx_codeblock.specs.declared.job.Job.{Job}
use Rattle.jx_rounds.proofs.FrontLemmas.{jobs_few}
use Rattle.jx_transcode.proofs.StatusLemmas.{ended_failed, ended_unread, failed_ended}
use Rattle.jx_transcode.proofs.rewrite.write_bare.Goals as goal

pub overflow_cast-count : goal.overflow_cast-count
overflow_cast-count g c = omega (arith, jobs_few c.args.plan.now c.jobs-jobs.ensures.plan, ap (λ (js : List Job). length js) c.jobs-jobs.ensures.value)

pub anew_in-requires : goal.anew_in-requires
anew_in-requires g c = omega (arith, jobs_few c.args.plan.now c.jobs-jobs.ensures.plan, ap (λ (js : List Job). length js) c.jobs-jobs.ensures.value)

pub returns-clause-carried : goal.returns-clause-carried
returns-clause-carried g c = rw (c.ending_of.ensures.blocks, c.ending_of.ensures.tape) (record {
  written = c.write_file-written.result;
  is = record {
    plan = c.requires.plan;
    count = ap (λ (js : List Job). length js) c.jobs-jobs.ensures.value ∙ c.requires.plan.all;
    tape = c.write_file-written.ensures.tape;
    whole = c.write_file-written.ensures.whole;
    taped = c.write_file-written.ensures.taped;
    ok = c.write_file-written.ensures.ok;
    err = c.write_file-written.ensures.err;
  };
  ends = c.ending_of.ensures.ends;
})

pub returns-clause-cause : goal.returns-clause-cause
returns-clause-cause g c = λ failed. c.write_file-written.ensures.cause (ended_failed c.write_file-written.result _ _ c.ending_of.ensures.ends failed)

pub returns-clause-rose : goal.returns-clause-rose
returns-clause-rose g c = λ rose. failed_ended c.write_file-written.result _ _ c.ending_of.ensures.ends (c.write_file-written.ensures.rose rose)

pub returns-clause-read : goal.returns-clause-read
returns-clause-read g c = ended_unread c.write_file-written.result _ _ c.ending_of.ensures.ends
