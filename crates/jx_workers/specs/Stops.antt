-- Inner: by what workers stop before all numbers are claimed.
use Rattle.std.specs.Prelude.{◌≡◌, ◌⊎◌, ℕ, ◌+◌, ◌-◌, ◌<◌, ◌≤◌, Bool, true, List, Some, slice_get, Contains}
use Rattle.jx_ring.specs.declared.view.Taken.{Taken}

-- the number of a job that is bad
pub record IsBadAt {J : Type 0} (first : ℕ) (jobs : List J) (bad : J → Bool) (k : ℕ) : Type 0 where
  pub from : first ≤ k
  pub job : J
  pub there : slice_get jobs (k - first) ≡ Some job
  pub is : bad job ≡ true

-- what the word says by which workers stop: nothing yet, or one more than such a number
abbrev pub IsStop : {J : Type 0} → ℕ → List J → (J → Bool) → ℕ → Type 0
IsStop first jobs bad word = (word ≡ 0) ⊎ IsBadAt first jobs bad (word - 1)

-- such a number below another
pub record IsBadBelow {J : Type 0} (first : ℕ) (jobs : List J) (bad : J → Bool) (past : ℕ) : Type 0 where
  pub number : ℕ
  pub is : IsBadAt first jobs bad number
  pub below : number < past

-- one more than the number of a claim, or 0
abbrev pub IsPast : List Taken → ℕ → Type 0
IsPast claims past = (past ≡ 0) ⊎ ((t : Taken) × Contains claims t × (t.number + 1 ≡ past))

-- a claim above such a number, or of it
pub record HasStopped {J : Type 0} (first : ℕ) (jobs : List J) (bad : J → Bool) (claims : List Taken) : Type 0 where
  pub claim : Taken
  pub there : Contains claims claim
  pub by : IsBadBelow first jobs bad (claim.number + 1)
