-- Lists of events with their replies.
use Rattle.std.specs.Prelude.{◌≡◌, List, [], ◌∷◌, map}
use Rattle.jx_store.specs.declared.event.Event.{Event}
use Rattle.jx_store.specs.declared.event.Reply.{Reply}
use Rattle.jx_store.specs.Machine.{State, does}

module _ {V : Type 0} where
  -- each event with the reply that the machine gives to it
  abbrev pub log_of : State V → List (Event V) → List (Event V × Reply)
  log_of s [] = []
  log_of s (e ∷ es) = (e, (does s e).1) ∷ log_of (does s e).0 es

  -- replaying the events gives these replies
  abbrev pub Legal : State V → List (Event V × Reply) → Type 0
  Legal s log = log_of s (map (λ x. x.0) log) ≡ log
