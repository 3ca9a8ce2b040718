use Rattle.std.proofs.Common.{◌≡◌, drop}
use Rattle.std.specs.List.{list_any}
use Rattle.jx_plan.specs.Changes.{is_coding}
use Rattle.jx_plan.proofs.fitting.has_coding.Given as goal

abbrev pub invariant-loop-segment : goal.invariant-loop-segment
invariant-loop-segment l = list_any is_coding l.header ≡ list_any is_coding (drop l.segment-index l.header)
