use Rattle.std.proofs.Common.{◌≡◌, drop}
use Rattle.jx_codestream.specs.Index.{has_default}
use Rattle.jx_codestream.proofs.index.has_default.Given as goal

abbrev pub invariant-loop-segment : goal.invariant-loop-segment
invariant-loop-segment l = has_default l.segments ≡ has_default (drop l.segment-index l.segments)
