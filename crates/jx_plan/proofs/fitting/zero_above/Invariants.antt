use Rattle.std.proofs.Common.{◌≡◌, ◌+◌, ◌-◌, map}
use Rattle.std.specs.List.{list_any, range_with_len}
use Rattle.jx_marker.specs.Rules.{has_zero_exponent}
use Rattle.jx_plan.specs.Headers.{item_at}
use Rattle.jx_plan.proofs.fitting.zero_above.Given as goal

abbrev pub invariant-loop-res : goal.invariant-loop-res
invariant-loop-res l =
    list_any has_zero_exponent (map (item_at l.items) (range_with_len 1 l.levels))
    ≡ list_any has_zero_exponent (map (item_at l.items) (range_with_len l.res (l.levels + 1 - l.res)))
