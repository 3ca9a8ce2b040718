use Rattle.std.proofs.Common.{◌≡◌, ◌≤◌, ◌++◌, map, drop, length, vec_len, vec_capacity}
use Rattle.jx_workers.specs.Tapes.{size_of}
use Rattle.jx_workers.proofs.sizes.sizes_of.Given as goal

abbrev pub invariant-loop-job : goal.invariant-loop-job
invariant-loop-job l = record {
  made : l.sizes.items ++ map size_of (drop l.job-index l.jobs) ≡ map size_of l.jobs;
  long : vec_len l.sizes ≡ l.job-index;
  room : length l.jobs ≤ vec_capacity l.sizes;
}
