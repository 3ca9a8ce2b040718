use Rattle.std.proofs.Common.{◌≡◌, ◌+◌, ◌-◌, ◌<◌, ◌≤◌, [], map, reverse, All, vec_len, vec_capacity}
use Rattle.std.specs.Prelude.{None}
use Rattle.jx_store.specs.Order.{numbers}
use Rattle.jx_ring.specs.Passes.{PassView}
use Rattle.jx_ring.specs.Rule.{first_view, counting_down}
use Rattle.jx_ring.proofs.ring.RingStore.deal_all.Given as goal

abbrev pub invariant-loop-left : goal.invariant-loop-left
invariant-loop-left g l = record {
  left : (0 < l.left) × (l.left ≤ l.workers);
  table : l.seat.table_id ≡ l.self.table.shared.table_id;
  seat : l.seat.me ≡ (record (first_view g.N.Bounds.setup l.workers) { stands = counting_down l.left }, []);
  long : vec_len l.passes + l.left ≡ l.workers;
  room : l.workers ≤ vec_capacity l.passes;
  names : reverse (map (λ (p : PassView). p.worker) l.passes.items) ≡ numbers l.left (l.workers - l.left);
  fresh : All (λ (p : PassView). (p.table ≡ l.self.table.shared.table_id) × (p.holds ≡ None) × (p.claims ≡ []) × (p.drained ≡ g.N.Bounds.setup.first) × (p.next ≡ g.N.Bounds.setup.first)) l.passes.items;
}

abbrev pub decreases-loop-left : goal.decreases-loop-left
decreases-loop-left g l = l.left
