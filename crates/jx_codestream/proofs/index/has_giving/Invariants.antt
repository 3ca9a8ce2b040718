use Rattle.std.proofs.Common.{◌≡◌, drop}
use Rattle.jx_codestream.specs.Index.{has_giving}
use Rattle.jx_codestream.proofs.index.has_giving.Given as goal

abbrev pub invariant-loop-segment : goal.invariant-loop-segment
invariant-loop-segment l = has_giving l.segments ≡ has_giving (drop l.segment-index l.segments)
