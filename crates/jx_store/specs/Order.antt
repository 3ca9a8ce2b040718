-- What every run of the machine keeps.
use Rattle.std.specs.Prelude.{◌≡◌, ℕ, zero, suc, ◌+◌, ◌-◌, ◌<◌, ◌≤◌, ◌⊎◌, List, [], ◌∷◌, ◌++◌, map, Some, None, slice_get, Contains}
use Rattle.jx_store.specs.declared.event.Event.{Event}
use Rattle.jx_store.specs.declared.event.Event.TheVariants.{Claim, Commit}
use Rattle.jx_store.specs.declared.event.Reply.{Reply}
use Rattle.jx_store.specs.declared.event.Reply.TheVariants.{Claimed, Committed}
use Rattle.jx_store.specs.declared.event.Taped.{Taped}
use Rattle.jx_store.specs.Setup.{Setup, load, Within}
use Rattle.jx_store.specs.Machine.{Claimant, Done, State, start, end, runs}
use Rattle.jx_store.specs.Legal.{log_of}

-- n numbers from a on
abbrev pub numbers : ℕ → ℕ → List ℕ
numbers a zero = []
numbers a (suc n) = numbers a n ++ (a + n) ∷ []

module _ {V : Type 0} where
  abbrev pub claim_in : Event V → Reply → List (ℕ × Claimant)
  claim_in (Claim w) (Claimed k seen) = (k, record { worker = w; seen = seen }) ∷ []
  claim_in e r = []

  abbrev pub commit_in : Event V → Reply → List (ℕ × ℕ × V)
  commit_in (Commit w k v) Committed = (k, w, v) ∷ []
  commit_in e r = []

  -- the numbers claimed, each with its claimant
  abbrev pub claims_in : List (Event V × Reply) → List (ℕ × Claimant)
  claims_in [] = []
  claims_in (x ∷ xs) = claim_in x.0 x.1 ++ claims_in xs

  -- the commits that were taken: number, worker and value
  abbrev pub commits_in : List (Event V × Reply) → List (ℕ × ℕ × V)
  commits_in [] = []
  commits_in (x ∷ xs) = commit_in x.0 x.1 ++ commits_in xs

  -- a number given by a claim of the log, inside both windows
  abbrev pub Given : List (Event V × Reply) → Setup → ℕ → Claimant → Type 0
  Given log p k c = Contains (claims_in log) (k, c) × Within p c.seen k

  abbrev pub by_of : Taped V → Claimant
  by_of t = record { worker = t.worker; seen = t.seen }

  pub record InOrder (log : List (Event V × Reply)) (s : State V) : Type 0 where
    pub low : s.setup.first ≤ s.drained
    pub mid : s.drained ≤ s.next
    pub high : s.next ≤ end s
    pub near : s.next ≤ s.drained + s.setup.window
    pub light : (s.next ≤ s.drained + 1) ⊎ (load s.setup s.drained s.next ≤ s.setup.most)
    pub claims : map (λ p. p.0) (claims_in log) ≡ numbers s.setup.first (s.next - s.setup.first)
    pub between : (k : ℕ) → s.drained ≤ k → k < s.next
        → ((c : Claimant) × (s.held k ≡ Some c) × (s.parked k ≡ None)) ⊎ ((d : Done V) × (s.held k ≡ None) × (s.parked k ≡ Some d))
    pub outside : (k : ℕ) → (k < s.drained) ⊎ (s.next ≤ k) → (s.held k ≡ None) × (s.parked k ≡ None)
    pub holds : (k : ℕ) (c : Claimant) → s.held k ≡ Some c → Given log s.setup k c
    pub parks : (k : ℕ) (d : Done V) → s.parked k ≡ Some d → Given log s.setup k d.by × Contains (commits_in log) (k, d.by.worker, d.value)
    pub tape : map (λ t. t.number) s.tape ≡ numbers s.setup.first (s.drained - s.setup.first)
    pub each : (i : ℕ) (t : Taped V) → slice_get s.tape i ≡ Some t → Given log s.setup t.number (by_of t) × Contains (commits_in log) (t.number, t.worker, t.named)

-- for every list of events
abbrev pub AlwaysInOrder : Type 0 → Type 0
AlwaysInOrder V = (p : Setup) (events : List (Event V)) → 0 < p.window → InOrder (log_of (start p) events) (runs (start p) events)
