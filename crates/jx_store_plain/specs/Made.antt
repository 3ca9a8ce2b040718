-- How many of the numbers that were committed have a value.
use Rattle.std.specs.Prelude.{ℕ, ◌+◌, ◌-◌, List, Option, Some, None, sum_by}
use Rattle.jx_store.specs.declared.event.Taped.{Taped}
use Rattle.jx_store.specs.declared.work.Named.{Named}
use Rattle.jx_store.specs.declared.work.Named.TheVariants.{Made, Bad, Short}
use Rattle.jx_store.specs.Machine.{Done, State}
use Rattle.jx_store_plain.specs.Busy.{one_if, busy}

module _ {V : Type 0} where
  abbrev pub value_in : Named V → Option V
  value_in (Made v) = Some v
  value_in (Bad j) = None
  value_in (Short j) = None

  abbrev pub one_made : Named V → ℕ
  one_made x = one_if (value_in x)

  abbrev pub made_at : Option (Done (Named V)) → Option V
  made_at None = None
  made_at (Some d) = value_in d.value

  -- on a tape
  abbrev pub made_on : List (Taped (Named V)) → ℕ
  made_on tape = sum_by (λ t. one_made t.named) tape

  -- on the tape, and parked
  abbrev pub made_in : State (Named V) → ℕ
  made_in s = made_on s.tape + busy (λ k. made_at (s.parked k)) s.drained (s.next - s.drained)
