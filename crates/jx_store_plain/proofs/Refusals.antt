-- Events that the machine refuses: nothing changes.
use Rattle.std.proofs.Common.{◌≡◌, ℕ, ◌%◌, ◌<◌, ◌≤◌, ◌==◌, ◌⊎◌, false, refl, ap, ◌∙◌, inr, arith}
use Rattle.std.specs.Prelude.{Some, None, slice_get}
use Rattle.std.proofs.lemmas.Bool.Decides.{nat_tests}
use Rattle.jx_store.specs.declared.event.Event.TheVariants.{Commit, Drain}
use Rattle.jx_store_plain.specs.declared.slot.Slot.{Slot}
use Rattle.jx_store_plain.specs.declared.slot.Slot.TheVariants.{Empty, Held, Parked}
use Rattle.jx_store.specs.declared.event.Reply.TheVariants.{Foreign, Nothing}
use Rattle.jx_store.specs.Machine.{Claimant, State, commit_by, does}
use Rattle.jx_store_plain.specs.Shown.{Shown, held_in, parked_in, state_of}
use Rattle.jx_store.proofs.Changes.{does_nothing}
use Rattle.jx_store_plain.proofs.Windows.{slot_in, slot_out}

module _ {V : Type 0} where
  unheld : (s : State V) (w k : ℕ) (v : V) → s.held k ≡ None → does s (Commit w k v) ≡ (s, Foreign)
  unheld s w k v at = ap (commit_by s w k v) at

  others : (s : State V) (w k : ℕ) (v : V) (c : Claimant) → s.held k ≡ Some c → (c.worker ≡ w → ⊥) → does s (Commit w k v) ≡ (s, Foreign)
  others s w k v c at not = ap (commit_by s w k v) at ∙ (let b : (c.worker == w) ≡ false = grind (arith, nat_tests) in rw b refl)

  none_held : (x : Slot V) → ((w seen : ℕ) → x ≡ Held w seen → ⊥) → held_in (Some x) ≡ None
  none_held Empty not = refl
  none_held (Held w seen) not = absurd (not w seen refl)
  none_held (Parked w seen v) not = refl

  none_parked : (x : Slot V) → ((w seen : ℕ) (v : V) → x ≡ Parked w seen v → ⊥) → parked_in (Some x) ≡ None
  none_parked Empty not = refl
  none_parked (Held w seen) not = refl
  none_parked (Parked w seen v) not = absurd (not w seen v refl)

  -- a commit of a number that isn't between drained and next
  pub foreign_out : (c : Shown V) (w k : ℕ) (v : V) → (k < c.drained) ⊎ (c.next ≤ k) → does (state_of c) (Commit w k v) ≡ (state_of c, Foreign)
  foreign_out c w k v out = unheld (state_of c) w k v (ap held_in (slot_out c.drained c.next c.setup.window c.slots k out))

  -- of one that nobody holds
  pub foreign_free : (c : Shown V) (w k : ℕ) (v : V) (x : Slot V) → c.drained ≤ k → k < c.next → slice_get c.slots (k % c.setup.window) ≡ Some x
      → ((h seen : ℕ) → x ≡ Held h seen → ⊥) → does (state_of c) (Commit w k v) ≡ (state_of c, Foreign)
  foreign_free c w k v x low high at not =
      unheld (state_of c) w k v (ap held_in (slot_in c.drained c.next c.setup.window c.slots k low high ∙ at) ∙ none_held x not)

  -- of one that another worker holds
  pub foreign_other : (c : Shown V) (w k : ℕ) (v : V) (h seen : ℕ) → c.drained ≤ k → k < c.next → slice_get c.slots (k % c.setup.window) ≡ Some (Held h seen)
      → (h ≡ w → ⊥) → does (state_of c) (Commit w k v) ≡ (state_of c, Foreign)
  foreign_other c w k v h seen low high at not =
      others (state_of c) w k v (record { worker = h; seen = seen }) (ap held_in (slot_in c.drained c.next c.setup.window c.slots k low high ∙ at)) not

  -- a drain where nothing is claimed
  pub nothing_claimed : (c : Shown V) → c.next ≤ c.drained → does (state_of c) Drain ≡ (state_of c, Nothing)
  nothing_claimed c none = does_nothing (state_of c) (ap parked_in (slot_out c.drained c.next c.setup.window c.slots c.drained (inr none)))

  -- where the next number isn't parked
  pub nothing_parked : (c : Shown V) (x : Slot V) → c.drained < c.next → slice_get c.slots (c.drained % c.setup.window) ≡ Some x
      → ((w seen : ℕ) (v : V) → x ≡ Parked w seen v → ⊥) → does (state_of c) Drain ≡ (state_of c, Nothing)
  nothing_parked c x some at not =
      does_nothing (state_of c) (ap parked_in (slot_in c.drained c.next c.setup.window c.slots c.drained (omega arith) some ∙ at) ∙ none_parked x not)
