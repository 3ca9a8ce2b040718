-- The plan of a sink in memory.
use Rattle.std.specs.Prelude.{ℕ, ◌≡◌, ◌↔◌, List, ◌+◌, ◌-◌, ◌^◌, min, Contains, Result, Err}
use Rattle.jx_io.specs.declared.refused.Refused.{Refused}
use Rattle.jx_io.specs.declared.refused.Refused.TheVariants.{Failed}
use Rattle.jx_io_memory.specs.declared.spoken.MemSink.{MemSink}

-- the numbers, from 1, of the calls that are to fail
abbrev pub planned_says : MemSink → List ℕ
planned_says sink = sink.plan.items

-- the number of the next call; it stands still at its end
abbrev pub next_say : MemSink → ℕ
next_say sink = min (sink.calls + 1) (2 ^ 32 - 1)

-- what `say` shows of the plan: it is counted, and it fails exactly where that is due
pub record ShowsSay {T : Type 0} (old new : MemSink) (result : Result T Refused) : Type 0 where
  pub plan : planned_says new ≡ planned_says old
  pub counted : next_say new ≡ min (next_say old + 1) (2 ^ 32 - 1)
  pub due : result ≡ Err Failed ↔ Contains (planned_says old) (next_say old)
