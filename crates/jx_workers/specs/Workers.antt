-- Passes before and after their workers' turn.
use Rattle.std.specs.Prelude.{◌≡◌, ◌⊎◌, ℕ, ◌<◌, ◌≤◌, Bool, List, All, None}
use Rattle.atomic_table.specs.Seated.{TableId}
use Rattle.jx_store.specs.Setup.{Setup, end_of}
use Rattle.jx_ring.specs.declared.view.Taken.{Taken}
use Rattle.jx_ring.specs.Passes.{PassView}
use Rattle.jx_workers.specs.Stops.{HasStopped}

-- a pass of this store and of one of its workers, which holds no claim, and made none when a number before the first was still out
pub record IsFree (p : Setup) (table : TableId) (workers : ℕ) (a : PassView) : Type 0 where
  pub mine : a.table ≡ table
  pub worker : a.worker < workers
  pub holds : a.holds ≡ None
  pub low : p.first ≤ a.drained
  pub seen : All (λ (t : Taken). p.first ≤ t.seen) a.claims

-- one that was told that all numbers are claimed, or committed a claim above the number of a job that is bad, or of it
pub record IsDone {J : Type 0} (p : Setup) (jobs : List J) (bad : J → Bool) (table : TableId) (workers : ℕ) (a : PassView) : Type 0 where
  pub free : IsFree p table workers a
  pub all : (a.next ≡ end_of p) ⊎ HasStopped p.first jobs bad a.claims
