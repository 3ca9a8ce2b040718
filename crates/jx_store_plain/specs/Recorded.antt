-- The history that the lock keeps.
use Rattle.std.specs.Prelude.{◌≡◌, ℕ, zero, suc, ◌+◌, List, length, None}
use Rattle.jx_store.specs.declared.event.Event.{Event}
use Rattle.jx_store.specs.declared.event.Event.TheVariants.{Drain}
use Rattle.jx_store.specs.Setup.{Setup}
use Rattle.jx_store.specs.Machine.{State, start, does, runs}
use Rattle.jx_store.specs.Legal.{log_of}
use Rattle.jx_store_plain.specs.Kept.{drains}
use Rattle.jx_store_plain.specs.Notes.{Notes, no_notes, note, notes}

module _ {V : Type 0} where
  -- there are values with which these events, with the machine's replies to them, give these notes
  -- and this state
  pub record Recorded (p : Setup) (n : Notes) (s : State V) : Type 0 where
    pub events : List (Event V)
    pub replays : s ≡ runs (start p) events
    pub noted : n ≡ notes no_notes (log_of (start p) events)

  -- the notes after m more Drain events
  abbrev pub drain_notes : State V → Notes → ℕ → Notes
  drain_notes s n zero = n
  drain_notes s n (suc m) = drain_notes (does s Drain).0 (note {V = V} n Drain (does s Drain).1) m

  -- all Drain events that are possible, with their notes
  abbrev pub Settled : State V → Notes → State V → Notes → Type 0
  Settled s n t n' = (m : ℕ) × (t ≡ drains s m) × (n' ≡ drain_notes s n m) × (t.parked t.drained ≡ None) × (length n'.steps + s.drained ≡ length n.steps + t.drained) × (t.next ≡ s.next)
