-- The history that a tape is told with.
use Rattle.std.specs.Prelude.{◌≡◌, ℕ, List}
use Rattle.jx_store.specs.declared.event.Taped.{Taped}
use Rattle.jx_store.specs.declared.work.Named.{Named}
use Rattle.jx_store.specs.Setup.{Setup}
use Rattle.jx_store.specs.Machine.{State}
use Rattle.jx_store_plain.specs.Below.{AllBelow}
use Rattle.jx_store_plain.specs.Made.{made_in}
use Rattle.jx_store_plain.specs.Notes.{Notes, count_full, count_all, count_claims, count_commits}
use Rattle.jx_store_plain.specs.Replays.{Remembers}

-- some legal list of events with replies, of which this history is kept, leads to a state with this tape;
-- the history alone leads there but for the values. The worker of each number is below `workers`. So
-- many of the numbers committed have a value.
pub record IsToldBy {V : Type 0} (p : Setup) (workers : ℕ) (history : Notes) (tape : List (Taped (Named V))) (made : ℕ) : Type 0 where
  pub state : State (Named V)
  pub remembers : Remembers p history state
  pub tape_is : state.tape ≡ tape
  pub below : AllBelow workers state
  pub values : made_in state ≡ made

-- a history tells of this tape, with so many replies of each kind in it
pub record IsTold {V : Type 0} (p : Setup) (workers : ℕ) (tape : List (Taped (Named V))) (claimed full all_claimed committed made : ℕ) : Type 0 where
  pub history : Notes
  pub by : IsToldBy p workers history tape made
  pub claims : count_claims history ≡ claimed
  pub fulls : count_full history ≡ full
  pub alls : count_all history ≡ all_claimed
  pub commits : count_commits history ≡ committed
