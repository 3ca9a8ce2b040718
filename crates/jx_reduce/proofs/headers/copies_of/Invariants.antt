use Rattle.std.proofs.Common.{◌≡◌, ◌++◌, drop}
use Rattle.jx_reduce.proofs.headers.copies_of.Given as goal

abbrev pub invariant-loop-segment : goal.invariant-loop-segment
invariant-loop-segment l = l.copies.items ++ drop l.segment-index l.segments ≡ l.segments
