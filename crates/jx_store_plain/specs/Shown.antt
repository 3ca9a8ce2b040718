-- What the core's fields show of the machine.
use Rattle.std.specs.Prelude.{ℕ, ◌%◌, nat_le, nat_lt, cond, ◌&&◌, List, Option, Some, None, slice_get}
use Rattle.jx_store_plain.specs.declared.slot.Slot.{Slot}
use Rattle.jx_store_plain.specs.declared.slot.Slot.TheVariants.{Empty, Held, Parked}
use Rattle.jx_store.specs.declared.event.Taped.{Taped}
use Rattle.jx_store.specs.Setup.{Setup}
use Rattle.jx_store.specs.Machine.{Claimant, Done, State}

pub record Shown (V : Type 0) : Type 0 where
  pub setup : Setup
  pub next : ℕ
  pub drained : ℕ
  pub slots : List (Slot V)
  pub tape : List (Taped V)

module _ {V : Type 0} where
  abbrev pub held_in : Option (Slot V) → Option Claimant
  held_in None = None
  held_in (Some Empty) = None
  held_in (Some (Held w s)) = Some (record { worker = w; seen = s })
  held_in (Some (Parked w s v)) = None

  abbrev pub parked_in : Option (Slot V) → Option (Done V)
  parked_in None = None
  parked_in (Some Empty) = None
  parked_in (Some (Held w s)) = None
  parked_in (Some (Parked w s v)) = Some (record { by = record { worker = w; seen = s }; value = v })

  -- the slot of a number between drained and next
  abbrev pub slot_of : ℕ → ℕ → ℕ → List (Slot V) → ℕ → Option (Slot V)
  slot_of drained next window slots k = cond (nat_le drained k && nat_lt k next) (slice_get slots (k % window)) None

  abbrev pub state_of : Shown V → State V
  state_of c = record {
    setup = c.setup;
    next = c.next;
    drained = c.drained;
    held = λ k. held_in (slot_of c.drained c.next c.setup.window c.slots k);
    parked = λ k. parked_in (slot_of c.drained c.next c.setup.window c.slots k);
    tape = c.tape;
  }
