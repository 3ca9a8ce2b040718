-- A value that is of a number.
use Rattle.std.specs.Prelude.{◌≡◌, ℕ, ◌-◌, Bool, true, List, Some, slice_get}
use Rattle.jx_store.specs.declared.work.Named.{Named}
use Rattle.jx_store.specs.declared.work.Named.TheVariants.{Made, Bad, Short}

-- of number k for the jobs from `first` on
abbrev pub IsOf : {V J : Type 0} → (V → ℕ) → (V → J) → (J → Bool) → ℕ → List J → ℕ → Named V → Type 0
IsOf number job bad first jobs k (Made v) = (number v ≡ k) × (slice_get jobs (k - first) ≡ Some (job v))
IsOf {V} {J} number job bad first jobs k (Bad j) = (j ≡ k) × ((x : J) × (slice_get jobs (k - first) ≡ Some x) × (bad x ≡ true))
IsOf number job bad first jobs k (Short j) = j ≡ k
