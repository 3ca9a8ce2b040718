-- The worker numbers of a state.
use Rattle.std.specs.Prelude.{◌≡◌, ℕ, ◌<◌, Some, slice_get}
use Rattle.jx_store.specs.declared.event.Taped.{Taped}
use Rattle.jx_store.specs.Machine.{Claimant, Done, State}

-- each number that is held, parked or on the tape was claimed by a worker below this
pub record AllBelow {V : Type 0} (workers : ℕ) (s : State V) : Type 0 where
  pub holds : (k : ℕ) (c : Claimant) → s.held k ≡ Some c → c.worker < workers
  pub parks : (k : ℕ) (d : Done V) → s.parked k ≡ Some d → d.by.worker < workers
  pub tape : (i : ℕ) (t : Taped V) → slice_get s.tape i ≡ Some t → t.worker < workers
