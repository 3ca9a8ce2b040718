use Rattle.std.proofs.Common.{◌≡◌, drop}
use Rattle.std.specs.List.{list_any}
use Rattle.jx_reduce.specs.Unreducible.{has_fewer}
use Rattle.jx_reduce.proofs.choices.header_has_fewer.Given as goal

abbrev pub invariant-loop-segment : goal.invariant-loop-segment
invariant-loop-segment l = list_any (has_fewer l.d) l.header ≡ list_any (has_fewer l.d) (drop l.segment-index l.header)
