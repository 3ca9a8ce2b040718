use Rattle.std.proofs.Common.{◌≡◌, ℕ, ◌+◌, ◌<◌, ◌≤◌, vec_len, vec_capacity}
use mathlib.Core.Option.{some}
use lib.ListN.{get_elem?}
use Rattle.jx_ring.specs.declared.view.Place.TheVariants.{Empty}
use Rattle.jx_ring.proofs.make.first_slots.Given as goal

abbrev pub invariant-loop : goal.invariant-loop
invariant-loop g l = record {
  long : vec_len l.slots ≡ l.counter;
  room : l.window + 1 ≤ vec_capacity l.slots;
  empty : (j : ℕ) → j < l.counter → get_elem? l.slots.items j ≡ some Empty;
}
