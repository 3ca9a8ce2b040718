use Rattle.std.proofs.Common.{◌≡◌, List, ◌++◌}
use Rattle.std.specs.Prelude.{[]}
use Rattle.jx_ring.specs.Passes.{PassView}
use Rattle.jx_ring.specs.Closing.{IsLast}
use Rattle.jx_ring.proofs.ring.RingStore.join_all.Given as goal

abbrev pub invariant-loop-pass : goal.invariant-loop-pass
invariant-loop-pass g l = record {
  table : l.seat.table_id ≡ l.self.table.shared.table_id;
  live : l.seat.me.0.stands ≡ [] → ⊥;
  out : l.seat.me.1 ≡ [];
  some : (ds : List PassView) × (l.fn.passes.items ≡ l.passes.items ++ ds) × IsLast ds l.seat.me.0;
}

abbrev pub decreases-loop-pass : goal.decreases-loop-pass
decreases-loop-pass g l = goal.left-loop-pass g l
