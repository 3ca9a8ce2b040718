use Rattle.std.proofs.Common.{length, ◌-◌, ◌≤◌}
use Rattle.jx_plan_tests.proofs.parting_tests.sizes.Given as goal

abbrev pub invariant-loop-from : goal.invariant-loop-from
invariant-loop-from l = l.from ≤ length l.names

abbrev pub decreases-loop-from : goal.decreases-loop-from
decreases-loop-from l = length l.names - l.from
