-- Values that are of their numbers.
use Rattle.std.specs.Prelude.{◌≡◌, ℕ, Some, slice_get}
use Rattle.jx_store.specs.Machine.{State, Done}
use Rattle.jx_store.specs.declared.event.Taped.{Taped}

-- each value that is parked or on the tape is of its number
pub record AllOf {V : Type 0} (P : ℕ → V → Type 0) (s : State V) : Type 0 where
  pub parks : (k : ℕ) (d : Done V) → s.parked k ≡ Some d → P k d.value
  pub tape : (i : ℕ) (t : Taped V) → slice_get s.tape i ≡ Some t → P t.number t.named
