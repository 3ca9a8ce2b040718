-- What the history says by itself, where no value is known.
use Rattle.std.specs.Prelude.{◌≡◌, List, map, Option, Some, None}
use Rattle.jx_store.specs.declared.event.Event.{Event}
use Rattle.jx_store.specs.declared.event.Event.TheVariants.{Claim, Commit, Drain}
use Rattle.jx_store.specs.declared.event.Reply.{Reply}
use Rattle.jx_store.specs.declared.event.Taped.{Taped}
use Rattle.jx_store_plain.specs.declared.history.Kind.{Kind}
use Rattle.jx_store_plain.specs.declared.history.Kind.TheVariants.{Claims, Commits, Drains}
use Rattle.jx_store.specs.Setup.{Setup}
use Rattle.jx_store.specs.Machine.{Done, State, start, runs}
use Rattle.jx_store.specs.Legal.{Legal}
use Rattle.jx_store_plain.specs.Notes.{Notes, no_notes, notes}

-- in place of a value
abbrev pub Blank : Type 0
Blank = Unit {0}

module _ {V : Type 0} where
  abbrev pub blank_done : Option (Done V) → Option (Done Blank)
  blank_done None = None
  blank_done (Some d) = Some (record { by = d.by; value = tt })

  abbrev pub blank_taped : Taped V → Taped Blank
  blank_taped t = record { number = t.number; worker = t.worker; seen = t.seen; named = tt }

  -- a state but for the values
  abbrev pub erase : State V → State Blank
  erase s = record {
    setup = s.setup;
    next = s.next;
    drained = s.drained;
    held = s.held;
    parked = λ k. blank_done (s.parked k);
    tape = map blank_taped s.tape;
  }

abbrev pub event_of : Kind → Event Blank
event_of (Claims w) = Claim w
event_of (Commits w k) = Commit w k tt
event_of Drains = Drain

-- the state to which the history's events lead
abbrev pub replayed : Setup → Notes → State Blank
replayed p n = runs (start p) (map (λ step. event_of step.kind) n.steps)

-- a history and a state: some legal list of events with replies leads to this state, and what is kept of
-- it is this history. The history alone leads to the state but for the values.
pub record Remembers {V : Type 0} (p : Setup) (n : Notes) (s : State V) : Type 0 where
  pub log : List (Event V × Reply)
  pub legal : Legal (start p) log
  pub leads : s ≡ runs (start p) (map (λ x. x.0) log)
  pub kept : n ≡ notes no_notes log
  pub alone : erase s ≡ replayed p n
