-- The plan of files in memory.
use Rattle.std.specs.Prelude.{ℕ, ◌≡◌, ◌+◌, ◌⊎◌, List, Contains, Option, Result, Err}
use Rattle.jx_io_memory.specs.declared.plan.Call.{Call}
use Rattle.jx_io_memory.specs.declared.plan.PlannedFault.{PlannedFault}
use Rattle.jx_io.specs.declared.refused.Refused.{Refused}
use Rattle.jx_io.specs.declared.refused.Refused.TheVariants.{Failed}
use Rattle.jx_io_memory.specs.declared.memory.MemFiles.{MemFiles}
use Rattle.jx_io.specs.Device.{Meaning}
use Rattle.jx_io.specs.Stored.{meaning_of}
use Rattle.jx_io_memory.specs.Planned.{Counts, next_of}

-- all of these files, of which all is told
abbrev pub told : MemFiles → Meaning
told files = meaning_of files.store

-- the calls that are to fail
abbrev pub planned : MemFiles → List PlannedFault
planned files = files.plan.faults.items

-- the number of the next call of a kind
abbrev pub next_call : MemFiles → Call → ℕ
next_call files call = next_of files.plan call

-- how many bytes a read or a write takes at most
abbrev pub most_taken : MemFiles → ℕ
most_taken files = files.more + 1

-- how many bytes a file that is read is said to have
abbrev pub length_said : MemFiles → Option ℕ
length_said files = files.hint

-- the next call of a kind is to fail
abbrev pub IsDue : MemFiles → Call → Type 0
IsDue files call = Contains (planned files) (record { call = call; nth = next_call files call })

-- what a call of a kind shows of the plan: it is counted, it fails where that is due, or by this other cause, and calls take as many bytes as
-- before
pub record Shows {T : Type 0} (old new : MemFiles) (call : Call) (other : Type 0) (result : Result T Refused) : Type 0 where
  pub counts : Counts old.plan new.plan call
  pub due : IsDue old call → result ≡ Err Failed
  pub only : result ≡ Err Failed → IsDue old call ⊎ other
  pub most : most_taken new ≡ most_taken old
