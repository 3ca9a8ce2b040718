-- The store machine: a state with two maps and a tape, and what each event does to it.
use Rattle.std.specs.Prelude.{ℕ, ◌+◌, ◌-◌, ◌==◌, nat_lt, Bool, cond, ◌&&◌, ◌||◌, List, [], ◌∷◌, ◌++◌, Option, Some, None}
use Rattle.jx_store.specs.declared.event.Event.{Event}
use Rattle.jx_store.specs.declared.event.Event.TheVariants.{Claim, Commit, Drain}
use Rattle.jx_store.specs.declared.event.Reply.{Reply}
use Rattle.jx_store.specs.declared.event.Reply.TheVariants.{Claimed, Full, AllClaimed, Committed, Foreign, Drained, Nothing}
use Rattle.jx_store.specs.declared.event.Taped.{Taped}
use Rattle.jx_store.specs.Setup.{Setup, end_of, is_over}

-- who claimed a number, and the first number that was not drained then
pub record Claimant : Type 0 where
  pub worker : ℕ
  pub seen : ℕ

-- a value that waits for its turn
pub record Done (V : Type 0) : Type 0 where
  pub by : Claimant
  pub value : V

-- `next` is the next number to claim, `drained` the next to go to the tape
pub record State (V : Type 0) : Type 0 where
  pub setup : Setup
  pub next : ℕ
  pub drained : ℕ
  pub held : ℕ → Option Claimant
  pub parked : ℕ → Option (Done V)
  pub tape : List (Taped V)

-- a map with one key set, or taken out
abbrev pub put : {X : Type 0} → (ℕ → Option X) → ℕ → Option X → ℕ → Option X
put m k x j = cond (j == k) x (m j)

module _ {V : Type 0} where
  abbrev pub start : Setup → State V
  start p = record { setup = p; next = p.first; drained = p.first; held = λ _. None; parked = λ _. None; tape = [] }

  -- the first number after all
  abbrev pub end : State V → ℕ
  end s = end_of s.setup

  -- the numbers claimed and not drained fill the window, or with the next one they would pass `most`
  abbrev pub is_full : State V → Bool
  is_full s = (s.next - s.drained == s.setup.window) || (nat_lt s.drained s.next && is_over s.setup s.drained s.next)

  abbrev pub claimed : State V → ℕ → State V
  claimed s w = record s { next = s.next + 1; held = put s.held s.next (Some (record { worker = w; seen = s.drained })) }

  abbrev pub committed : State V → ℕ → V → Claimant → State V
  committed s k v c = record s { held = put s.held k None; parked = put s.parked k (Some (record { by = c; value = v })) }

  abbrev pub drained_one : State V → Done V → State V
  drained_one s d = record s { drained = s.drained + 1; parked = put s.parked s.drained None; tape = s.tape ++ record { number = s.drained; worker = d.by.worker; seen = d.by.seen; named = d.value } ∷ [] }

  abbrev pub commit_by : State V → ℕ → ℕ → V → Option Claimant → State V × Reply
  commit_by s w k v None = (s, Foreign)
  commit_by s w k v (Some c) = cond (c.worker == w) (committed s k v c, Committed) (s, Foreign)

  abbrev pub drain_by : State V → Option (Done V) → State V × Reply
  drain_by s None = (s, Nothing)
  drain_by s (Some d) = (drained_one s d, Drained s.drained)

  -- the state after an event, and the reply
  abbrev pub does : State V → Event V → State V × Reply
  does s (Claim w) =
      cond (s.next == end s) (s, AllClaimed)
      (cond (is_full s) (s, Full s.next s.drained)
      (claimed s w, Claimed s.next s.drained))
  does s (Commit w k v) = commit_by s w k v (s.held k)
  does s Drain = drain_by s (s.parked s.drained)

  -- the state after all events
  abbrev pub runs : State V → List (Event V) → State V
  runs s [] = s
  runs s (e ∷ es) = runs (does s e).0 es
