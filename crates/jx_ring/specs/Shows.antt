-- What a ring shows of the store machine.
use Rattle.std.specs.Prelude.{ℕ, nat_le, nat_lt, ◌&&◌, cond, List, map, Option, Some, None, option_map}
use Rattle.atomic_table.specs.Table.{State}
use Rattle.jx_store.specs.declared.event.Taped.{Taped}
use Rattle.jx_store.specs.declared.work.Named.{Named}
use Rattle.jx_store.specs.Setup.{Setup}
use Rattle.jx_store.specs.Machine.{Claimant, Done, State as Store}
use Rattle.jx_ring.specs.declared.view.RingView.{RingView}
use Rattle.jx_ring.specs.declared.view.Place.{Place}
use Rattle.jx_ring.specs.Rule.{Phase, free, held, parked, leaving, Ring}

-- a claimant but for `seen`
abbrev pub unseen : Claimant → Claimant
unseen c = record c { seen = 0 }

module _ {V : Type 0} where
  abbrev pub held_in : Phase V → Option Claimant
  held_in free = None
  held_in (held j t) = Some (record { worker = t.worker; seen = t.seen })
  held_in (parked e) = None
  held_in (leaving j e) = None

  -- the head is parked until its drain ends
  abbrev pub parked_in : Phase V → Option (Done (Named V))
  parked_in free = None
  parked_in (held j t) = None
  parked_in (parked e) = Some (record { by = record { worker = e.worker; seen = e.seen }; value = e.named })
  parked_in (leaving j e) = Some (record { by = record { worker = e.worker; seen = e.seen }; value = e.named })

  abbrev pub shown : Setup → ℕ → ℕ → (ℕ → Phase V) → List (Taped (Named V)) → Store (Named V)
  shown p drained next ph tape = record {
    setup = p;
    next = next;
    drained = drained;
    held = λ k. cond (nat_le drained k && nat_lt k next) (held_in (ph k)) None;
    parked = λ k. cond (nat_le drained k && nat_lt k next) (parked_in (ph k)) None;
    tape = tape;
  }

  -- a state but for `seen`
  abbrev pub unseen_done : Done (Named V) → Done (Named V)
  unseen_done d = record d { by = unseen d.by }

  abbrev pub unseen_taped : Taped (Named V) → Taped (Named V)
  unseen_taped t = record t { seen = 0 }

  abbrev pub but_seen : Store (Named V) → Store (Named V)
  but_seen s = record s { held = λ k. option_map unseen (s.held k); parked = λ k. option_map unseen_done (s.parked k); tape = map unseen_taped s.tape }

module _ {V : Type 0} (p : Setup) (workers : ℕ) (Ok : ℕ → Named V → Type 0) where
  abbrev pub shows : (s : State (Place V) RingView) → Ring p workers Ok s → Store (Named V)
  shows s r = shown p r.drained r.next r.phase r.tape
