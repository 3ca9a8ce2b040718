use Rattle.std.proofs.Common.{◌≡◌, ◌≤◌, ◌*◌, map, length}
use Rattle.std.specs.List.{sum}
use Rattle.jx_workers.specs.Tapes.{AreAsked, size_of}
use Rattle.jx_codeblock_tests.proofs.pool_tests.jobs_of.Given as goal

abbrev pub invariant-loop-place : goal.invariant-loop-place
invariant-loop-place l = record {
  asked : AreAsked l.first l.jobs.items;
  long : length l.jobs.items ≡ l.place;
  sizes : sum (map size_of l.jobs.items) ≤ 100 * l.place;
}
