use Rattle.std.proofs.Common.{◌≡◌, ◌++◌, drop}
use Rattle.jx_plan.proofs.headers.push_copies.Given as goal

abbrev pub invariant-loop-segment : goal.invariant-loop-segment
invariant-loop-segment l = l.into.items ++ drop l.segment-index l.segments ≡ l.fn.into.items ++ l.segments
