use Rattle.std.proofs.Common.{◌≡◌, drop}
use Rattle.jx_codestream.specs.Index.{has_shape}
use Rattle.jx_codestream.proofs.index.has_shape.Given as goal

abbrev pub invariant-loop-segment : goal.invariant-loop-segment
invariant-loop-segment l = has_shape l.segments ≡ has_shape (drop l.segment-index l.segments)
