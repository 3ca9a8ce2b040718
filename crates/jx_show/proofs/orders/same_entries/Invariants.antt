use Rattle.std.proofs.Common.{◌≡◌, drop}
use Rattle.jx_show.specs.Orders.{same_entries}
use Rattle.jx_show.proofs.orders.same_entries.Given as goal

abbrev pub invariant-loop-index : goal.invariant-loop-index
invariant-loop-index l = same_entries l.a l.b ≡ same_entries (drop l.index l.a) (drop l.index l.b)
