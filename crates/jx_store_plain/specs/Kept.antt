-- What the locked state keeps.
use Rattle.std.specs.Prelude.{◌≡◌, ℕ, ◌+◌, ◌-◌, zero, suc, List}
use Rattle.jx_store.specs.declared.event.Event.{Event}
use Rattle.jx_store.specs.declared.event.Event.TheVariants.{Drain}
use Rattle.jx_store.specs.declared.event.Reply.{Reply}
use Rattle.jx_store.specs.Setup.{Setup}
use Rattle.jx_store.specs.Machine.{State, does}
use Rattle.jx_store.specs.Order.{InOrder}
use Rattle.jx_store_plain.specs.Busy.{busy}

-- a state of the store that was made with p, after so many claims and commits
pub record Kept {V : Type 0} (p : Setup) (claims commits : ℕ) (s : State V) : Type 0 where
  pub setup_is : s.setup ≡ p
  pub claims_is : claims + s.setup.first ≡ s.next
  pub commits_is : commits + busy s.held s.drained (s.next - s.drained) ≡ claims
  pub order : (log : List (Event V × Reply)) × InOrder log s

module _ {V : Type 0} where
  -- after n more Drain events
  abbrev pub drains : State V → ℕ → State V
  drains s zero = s
  drains s (suc n) = drains (does s Drain).0 n
