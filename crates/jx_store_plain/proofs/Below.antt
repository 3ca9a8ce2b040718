-- The worker numbers of a state.
use Rattle.std.proofs.Common.{◌≡◌, ℕ, zero, suc, ◌<◌, refl, sym, subst, ◌∙◌, inl, inr}
use Rattle.std.specs.Prelude.{Option, Some, None}
use Rattle.std.proofs.lemmas.Option.{same_Some, none-some}
use Rattle.jx_store.specs.declared.event.Event.TheVariants.{Claim, Commit, Drain}
use Rattle.jx_store.specs.declared.event.Reply.TheVariants.{Claimed, Committed}
use Rattle.jx_store.specs.declared.event.Taped.{Taped}
use Rattle.jx_store.specs.Setup.{Setup}
use Rattle.jx_store.specs.Machine.{Claimant, Done, State, put, drain_by, does, start}
use Rattle.jx_store_plain.specs.Kept.{drains}
use Rattle.jx_store_plain.specs.Below.{AllBelow}
use Rattle.jx_store.proofs.Runs.{put_cases, push_cases, not_both}
use Rattle.jx_store_plain.proofs.Tally.{was_claimed, was_committed}

module _ {V : Type 0} (n : ℕ) where
  pub below_start : (p : Setup) (s : State V) → s ≡ start p → AllBelow n s
  below_start p s e = subst (AllBelow n) (sym e) record { holds = λ k c is. absurd (none-some c is); parks = λ k d is. absurd (none-some d is); tape = λ i t is. absurd (none-some t is) }

  pub below_same : (s t : State V) → t ≡ s → AllBelow n s → AllBelow n t
  below_same s t e a = subst (AllBelow n) (sym e) a

  pub below_claim : (s : State V) (w k seen : ℕ) → (does s (Claim w)).1 ≡ Claimed k seen → w < n → AllBelow n s → AllBelow n (does s (Claim w)).0
  below_claim s w k seen r lt a =
      let me : Claimant = record { worker = w; seen = s.drained } in
      subst (AllBelow n) (sym (was_claimed s w k seen r).4) record {
        holds = λ j c is. elim (put_cases s.held s.next (Some me) j) [
          | inl q ↦ subst (λ (b : Claimant). b.worker < n) (same_Some me c (sym q.1 ∙ is)) lt
          | inr q ↦ a.holds j c (sym q.1 ∙ is)
        ];
        parks = a.parks;
        tape = a.tape;
      }

  pub below_commit : (s : State V) (w k : ℕ) (v : V) → (does s (Commit w k v)).1 ≡ Committed → AllBelow n s → AllBelow n (does s (Commit w k v)).0
  below_commit s w k v r a =
      let t = was_committed s w k v r in
      let d : Done V = record { by = t.0; value = v } in
      subst (AllBelow n) (sym t.3) record {
        holds = λ j c is. elim (put_cases s.held k None j) [
          | inl q ↦ absurd (not_both (put s.held k None j) c q.1 is)
          | inr q ↦ a.holds j c (sym q.1 ∙ is)
        ];
        parks = λ j e is. elim (put_cases s.parked k (Some d) j) [
          | inl q ↦ subst (λ (f : Done V). f.by.worker < n) (same_Some d e (sym q.1 ∙ is)) (a.holds k t.0 t.1)
          | inr q ↦ a.parks j e (sym q.1 ∙ is)
        ];
        tape = a.tape;
      }

  pub below_drain : (s : State V) → AllBelow n s → AllBelow n (does s Drain).0
  below_drain s a = by_parked (s.parked s.drained) refl where
    by_parked : (o : Option (Done V)) → s.parked s.drained ≡ o → AllBelow n (drain_by s o).0
    by_parked None is = a
    by_parked (Some d) is = record {
      holds = a.holds;
      parks = λ j e at. elim (put_cases s.parked s.drained None j) [
        | inl q ↦ absurd (not_both (put s.parked s.drained None j) e q.1 at)
        | inr q ↦ a.parks j e (sym q.1 ∙ at)
      ];
      tape = λ i t at. elim (push_cases s.tape (record { number = s.drained; worker = d.by.worker; seen = d.by.seen; named = d.value }) i t at) [
        | inl was ↦ a.tape i t was
        | inr same ↦ subst (λ (u : Taped V). u.worker < n) same (a.parks s.drained d is)
      ];
    }

  pub below_drains : (s : State V) (m : ℕ) → AllBelow n s → AllBelow n (drains s m)
  below_drains s zero a = a
  below_drains s (suc m) a = below_drains (does s Drain).0 m (below_drain s a)
