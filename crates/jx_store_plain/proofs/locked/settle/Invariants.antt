use Rattle.std.proofs.Common.{◌≡◌, ℕ, ◌-◌, ◌+◌, ◌≤◌, length, vec_capacity}
use Rattle.jx_store_plain.specs.Kept.{drains}
use Rattle.jx_store_plain.specs.Recorded.{drain_notes}
use Rattle.jx_store_plain.specs.Shown.{state_of}
use Rattle.jx_store_plain.specs.ShownNotes.{shown}
use Rattle.jx_store_plain.proofs.locked.settle.Given as goal

abbrev pub invariant-loop-history : goal.invariant-loop-history
invariant-loop-history g l = record {
  m : ℕ;
  state : state_of l.core ≡ drains (state_of l.fn.core) m;
  notes : shown l.history ≡ drain_notes (state_of l.fn.core) (shown l.fn.history) m;
  long : length l.history.steps.items + l.fn.core.drained ≡ length l.fn.history.steps.items + l.core.drained;
  next : l.core.next ≡ l.fn.core.next;
  mid : l.core.drained ≤ l.core.next;
  room : vec_capacity l.history.steps ≡ vec_capacity l.fn.history.steps;
}

abbrev pub decreases-loop-history : goal.decreases-loop-history
decreases-loop-history g l = l.core.next - l.core.drained
