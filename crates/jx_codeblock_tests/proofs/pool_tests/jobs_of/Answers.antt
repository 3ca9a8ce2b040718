use Rattle.std.proofs.Common.{◌≡◌, ◌+◌, ℕ, List, length, map, ap, sym, subst, arith}
use Rattle.std.specs.List.{sum}
use Rattle.jx_codeblock.specs.declared.job.Job.{Job}
use Rattle.jx_workers.specs.Tapes.{AreAsked, size_of}
use Rattle.jx_codeblock_tests.proofs.PoolLemmas.{add_job, add_size, one_more}
use Rattle.jx_codeblock_tests.proofs.pool_tests.jobs_of.Goals as goal

pub loop-place-preserved : goal.loop-place-preserved
loop-place-preserved c =
    let i = c.loop-place.invariant in let pushed = c.in_ok-push.ensures.items in
    let j : Job = c.in_ok-job_of.field-0 in let is = c.in_ok-job_of.ensures in
    let jobs : List Job = c.loop-place.jobs.items in let first : ℕ = c.args.first in
    let number : j.number ≡ first + length jobs = (let a = is.0 in let l = i.long in omega (arith, a, l)) in
    let size = is.2 in let few = c.pick-block.ensures.2 in
    record {
      asked = subst (λ (l : List Job). AreAsked first l) (sym pushed) (add_job first jobs j i.asked number is.1);
      long = (let l = ap (λ (l : List Job). length l) pushed in let m = one_more jobs j in let n = i.long in omega (arith, l, m, n));
      sizes = (let s = ap (λ (l : List Job). sum (map size_of l)) pushed in let t = add_size jobs j in let u = i.sizes in omega (arith, s, t, u, size, few));
    }
