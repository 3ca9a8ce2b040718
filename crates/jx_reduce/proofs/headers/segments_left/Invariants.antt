use Rattle.std.proofs.Common.{◌≡◌, ◌++◌, map, drop}
use Rattle.jx_reduce.specs.Reduction.{segment_left}
use Rattle.jx_reduce.proofs.headers.segments_left.Given as goal

abbrev pub invariant-loop-segment : goal.invariant-loop-segment
invariant-loop-segment l = l.left.items ++ map (segment_left l.d) (drop l.segment-index l.segments) ≡ map (segment_left l.d) l.segments
