-- Counts of faults, which are numbers of 64 bits that stand still at their end.
use Rattle.std.specs.Prelude.{ℕ, ◌+◌, ◌-◌, ◌^◌, ◌≤◌, ◌<◌, min, Result, IsErrOf}
use Rattle.jx_io.specs.declared.refused.Refused.{Refused}
use Rattle.jx_io.specs.declared.refused.Refused.TheVariants.{Failed}

-- the count is greater than before, or stands at its greatest, 2^64 - 1
abbrev pub Rose : ℕ → ℕ → Type 0
Rose before now = min (before + 1) (2 ^ 64 - 1) ≤ now

-- the count hasn't fallen, and `Failed` comes exactly where it rose
pub record HasCause {T : Type 0} (before now : ℕ) (result : Result T Refused) : Type 0 where
  pub later : before ≤ now
  pub failed : IsErrOf result Failed → Rose before now
  pub rose : before < now → IsErrOf result Failed
