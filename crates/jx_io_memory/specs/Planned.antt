-- Which calls of files in memory are to fail.
use Rattle.std.specs.Prelude.{ℕ, ◌≡◌, ◌+◌, ◌-◌, ◌^◌, slice_index, min}
use Rattle.jx_io_memory.specs.declared.plan.Call.{Call}
use Rattle.jx_io_memory.specs.declared.plan.Call.TheVariants.{Open, Read, Create, Write, Finish}
use Rattle.jx_io_memory.specs.declared.plan.Plan.{Plan}

-- a kind's place among the counts
abbrev pub kind_of : Call → ℕ
kind_of Open = 0
kind_of Read = 1
kind_of Create = 2
kind_of Write = 3
kind_of Finish = 4

-- the number, from 1, that the next call of this kind has; it stands still at its end
abbrev pub next_of : Plan → Call → ℕ
next_of plan call = min (slice_index plan.made (kind_of call) + 1) (2 ^ 32 - 1)

-- what a call of this kind leaves: the plan stays, and the call is counted for its kind alone
pub record Counts (old new : Plan) (call : Call) : Type 0 where
  pub plan : new.faults.items ≡ old.faults.items
  pub this : next_of new call ≡ min (next_of old call + 1) (2 ^ 32 - 1)
  pub others : (kind : Call) → (kind ≡ call → ⊥) → next_of new kind ≡ next_of old kind
