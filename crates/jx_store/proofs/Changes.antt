-- What an event does to a state, by the branches of the machine.
use Rattle.std.proofs.Common.{◌≡◌, ◌≢◌, ℕ, ◌+◌, ◌-◌, ◌≤◌, ◌==◌, ◌⊎◌, true, false, refl, ap, ◌∙◌, inl, inr, arith}
use Rattle.std.specs.Prelude.{Some, None}
use Rattle.std.proofs.lemmas.Bool.Decides.{nat_tests}
use Rattle.std.proofs.lemmas.Bool.{cases_lt}
use Rattle.jx_store.specs.declared.event.Event.TheVariants.{Claim, Commit, Drain}
use Rattle.jx_store.specs.declared.event.Reply.TheVariants.{Claimed, Committed, Drained, Nothing}
use Rattle.jx_store.specs.Setup.{load}
use Rattle.jx_store.specs.Machine.{Claimant, Done, State, end, is_full, claimed, committed, drained_one, commit_by, drain_by, does}

module _ {V : Type 0} where
  pub not_full : (s : State V) → is_full s ≡ false → (s.next - s.drained ≢ s.setup.window) × ((s.next ≤ s.drained) ⊎ (load s.setup s.drained (s.next + 1) ≤ s.setup.most))
  not_full s h = (
    (λ e. let t : is_full s ≡ true = grind (arith, nat_tests) in grind (arith, nat_tests)),
    elim (cases_lt s.drained s.next) [
      | inl lt ↦ elim (cases_lt s.setup.most (load s.setup s.drained (s.next + 1))) [
        | inl over ↦ absurd (let t : is_full s ≡ true = grind (arith, nat_tests) in grind (arith, nat_tests))
        | inr fits ↦ inr fits
      ]
      | inr le ↦ inl le
    ],
  )

  -- the branches of the machine
  pub does_claim : (s : State V) (w : ℕ) → (s.next ≡ end s → ⊥) → is_full s ≡ false → does s (Claim w) ≡ (claimed s w, Claimed s.next s.drained)
  does_claim s w some room = (let e : (s.next == end s) ≡ false = grind (arith, nat_tests) in rw (e, room) refl)

  pub does_commit : (s : State V) (w k : ℕ) (v : V) (c : Claimant) → s.held k ≡ Some c → c.worker ≡ w → does s (Commit w k v) ≡ (committed s k v c, Committed)
  does_commit s w k v c at by = ap (commit_by s w k v) at ∙ (let b : (c.worker == w) ≡ true = grind (arith, nat_tests) in rw b refl)

  pub does_drain : (s : State V) (d : Done V) → s.parked s.drained ≡ Some d → does s Drain ≡ (drained_one s d, Drained s.drained)
  does_drain s d at = ap (drain_by s) at

  pub does_nothing : (s : State V) → s.parked s.drained ≡ None → does s Drain ≡ (s, Nothing)
  does_nothing s at = ap (drain_by s) at
