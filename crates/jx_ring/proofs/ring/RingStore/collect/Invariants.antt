use Rattle.std.proofs.Common.{◌≡◌, ℕ, ◌+◌, ◌-◌, ◌%◌, ◌<◌, ◌≤◌, true, false, List, ◌++◌, length, get_or, vec_capacity}
use Rattle.std.specs.Mem.Slots.{slots_items, slots_len, slots_filled}
use Rattle.jx_store.specs.Valid.{IsOf}
use Rattle.jx_ring.specs.declared.view.Taken.{Taken}
use Rattle.jx_ring.specs.Closing.{Shut, found}
use Rattle.jx_ring.proofs.ring.RingStore.collect.Given as goal

abbrev pub invariant-loop-i : goal.invariant-loop-i
invariant-loop-i g l = record {
  low : l.i ≤ l.window;
  len : slots_len l.closed.slots ≡ l.window + 1;
  same : slots_items l.closed.slots ≡ slots_items l.fn.closed.slots;
  got : (claims : List Taken) (seen : ℕ) (x : Shut g.N.Bounds.setup (IsOf g.V.Work.number g.V.Work.job g.V.Work.bad g.N.Bounds.setup.first g.N.Bounds.jobs) claims seen l.drained (slots_items l.fn.closed.slots)) → l.tape.items ≡ x.tape.items ++ found x.next x.entry l.drained l.i;
  room : length g.N.Bounds.setup.sizes ≤ vec_capacity l.tape;
  head : get_or (slots_filled l.closed.slots) l.window false ≡ false;
  taken : (k : ℕ) → l.drained ≤ k → k < l.drained + l.i → get_or (slots_filled l.closed.slots) (k % l.window) false ≡ false;
  left : (k : ℕ) → l.drained + l.i ≤ k → k < l.drained + l.window → get_or (slots_filled l.closed.slots) (k % l.window) false ≡ true;
}

abbrev pub decreases-loop-i : goal.decreases-loop-i
decreases-loop-i g l = l.window - l.i
