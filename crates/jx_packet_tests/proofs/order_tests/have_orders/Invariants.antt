use Rattle.std.proofs.Common.{◌<◌, ℕ, slice_index_or}
use Rattle.jx_base.specs.OrderNumbers.{IsOrderNumber}
use Rattle.jx_marker.specs.declared.Progression.{Progression}
use Rattle.jx_packet_tests.proofs.order_tests.have_orders.Given as goal

abbrev pub invariant-loop-entry : goal.invariant-loop-entry
invariant-loop-entry l = (k : ℕ) (d : Progression) → k < l.entry-index → IsOrderNumber (slice_index_or l.entries k d).order
