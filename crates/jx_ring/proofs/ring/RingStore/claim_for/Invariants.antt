use Rattle.std.proofs.Common.{◌≡◌, ◌≤◌, []}
use Rattle.std.specs.Prelude.{None}
use Rattle.jx_ring.specs.Passes.{SeesMore, IsSameSeat}
use Rattle.jx_ring.proofs.ring.RingStore.claim_for.Given as goal

abbrev pub invariant-loop : goal.invariant-loop
invariant-loop g l = record {
  runs : (goal.iterator-loop g).can_next l.iterator' × (goal.iterator-loop g).is_finite l.iterator';
  seat : IsSameSeat l.initial.seat l.seat;
  more : SeesMore l.initial.seat.me.0 l.seat.me.0;
  holds : l.seat.me.0.holds ≡ None;
  out : l.seat.me.1 ≡ [];
  low : g.N.Bounds.setup.first ≤ l.seat.me.0.drained;
}
