use Rattle.std.proofs.Common.{◌≡◌, map}
use Rattle.std.specs.List.{range_with_len}
use Rattle.jx_plan.specs.Headers.{item_at}
use Rattle.jx_plan.proofs.headers.each_byte.Given as goal

abbrev pub invariant-loop-res : goal.invariant-loop-res
invariant-loop-res l = l.bytes.items ≡ map (item_at l.items) (range_with_len 0 l.res)
