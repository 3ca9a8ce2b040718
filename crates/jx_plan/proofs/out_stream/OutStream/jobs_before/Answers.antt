use Rattle.std.proofs.Common.{ℕ, List, arith, subst, sym}
use Rattle.jx_codeblock.specs.declared.job.Job.{Job}
use Rattle.jx_geom.specs.Numbering.{blocks_below}
use Rattle.jx_codestream.specs.First.{canvas_of}
use Rattle.jx_codestream.specs.Shapes.{shapes_of}
use Rattle.jx_plan.specs.TileJobs.{AreJobsBelow}
use Rattle.jx_plan.proofs.TileJobLemmas.{few_below, jobs_below}
use Rattle.jx_plan.proofs.out_stream.OutStream.jobs_before.Goals as goal

pub overflow_cast-result : goal.overflow_cast-result
overflow_cast-result c =
    let p = c.args.self.now in
    let n : ℕ = blocks_below (canvas_of p.stream.siz) (shapes_of p.stream) c.args.tile in
    let P : List Job → Type 0 = λ js. AreJobsBelow js c.args.tile n in
    let same = c.jobs_below.ensures n (subst P (sym c.jobs.ensures.value) (jobs_below p c.args.tile c.jobs.ensures.plan c.requires)) in
    omega (arith, same, few_below p c.args.tile c.jobs.ensures.plan c.requires)

pub returns-clause-count : goal.returns-clause-count
returns-clause-count c =
    let p = c.args.self.now in
    let n : ℕ = blocks_below (canvas_of p.stream.siz) (shapes_of p.stream) c.args.tile in
    let P : List Job → Type 0 = λ js. AreJobsBelow js c.args.tile n in
    let same = c.jobs_below.ensures n (subst P (sym c.jobs.ensures.value) (jobs_below p c.args.tile c.jobs.ensures.plan c.requires)) in
    same

pub returns-clause-below : goal.returns-clause-below
returns-clause-below c =
    let p = c.args.self.now in
    let n : ℕ = blocks_below (canvas_of p.stream.siz) (shapes_of p.stream) c.args.tile in
    let P : List Job → Type 0 = λ js. AreJobsBelow js c.args.tile n in
    let same = c.jobs_below.ensures n (subst P (sym c.jobs.ensures.value) (jobs_below p c.args.tile c.jobs.ensures.plan c.requires)) in
    subst (AreJobsBelow p.jobs c.args.tile) (sym same) (jobs_below p c.args.tile c.jobs.ensures.plan c.requires)

pub returns-clause-few : goal.returns-clause-few
returns-clause-few c =
    let p = c.args.self.now in
    let n : ℕ = blocks_below (canvas_of p.stream.siz) (shapes_of p.stream) c.args.tile in
    let P : List Job → Type 0 = λ js. AreJobsBelow js c.args.tile n in
    let same = c.jobs_below.ensures n (subst P (sym c.jobs.ensures.value) (jobs_below p c.args.tile c.jobs.ensures.plan c.requires)) in
    omega (arith, same, few_below p c.args.tile c.jobs.ensures.plan c.requires)
