use Rattle.std.proofs.Common.{◌≤◌, ◌-◌, ℕ, length}
use Rattle.jx_plan.specs.TileJobs.{AreJobsBelow}
use Rattle.jx_plan.proofs.out_stream.jobs_below.Given as goal

abbrev pub invariant-loop-low : goal.invariant-loop-low
invariant-loop-low l = record {
  order : l.low ≤ l.high;
  inside : l.high ≤ length l.jobs;
  around : (count : ℕ) → AreJobsBelow l.jobs l.tile count → (l.low ≤ count) × (count ≤ l.high);
}

abbrev pub decreases-loop-low : goal.decreases-loop-low
decreases-loop-low l = l.high - l.low
