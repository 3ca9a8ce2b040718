use Rattle.std.proofs.Common.{◌≤◌, ◌*◌, List, length, map, sym, subst, arith}
use Rattle.std.specs.List.{sum}
use Rattle.jx_codeblock.specs.declared.job.Job.{Job}
use Rattle.jx_workers.specs.Tapes.{AreAsked, size_of}
use Rattle.jx_codeblock_tests.proofs.pool_tests.run_over.Goals as goal

pub lines-requires-clause-jobs : goal.lines-requires-clause-jobs
lines-requires-clause-jobs g c κs within =
    let e = c.in_ok-jobs.ensures in let count = e.count in let sizes = e.sizes in let most = c.requires.count.0 in
    subst (λ (l : List Job). AreAsked c.args.first l × (c.args.first ≤ 1000) × (length l ≤ 1000) × (sum (map size_of l) ≤ 100 * length l)) (sym c.as_slice.ensures.value)
    (e.asked, c.requires.count.1, omega (arith, count, most), omega (arith, count, sizes))
