use Rattle.std.proofs.Common.{◌≡◌, Some, drop}
use Rattle.std.specs.List.{list_any}
use Rattle.jx_plan.specs.Fits.{has_zero}
use Rattle.jx_plan.proofs.fitting.header_has_zero.Given as goal

abbrev pub invariant-loop-segment : goal.invariant-loop-segment
invariant-loop-segment l = list_any (has_zero (Some l.items)) l.header ≡ list_any (has_zero (Some l.items)) (drop l.segment-index l.header)
