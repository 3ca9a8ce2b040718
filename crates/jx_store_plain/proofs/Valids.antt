use Rattle.std.proofs.Common.{◌≡◌, ℕ, zero, suc, refl, sym, subst, ◌∙◌, inl, inr}
use Rattle.std.specs.Prelude.{Option, Some, None}
use Rattle.jx_store.specs.declared.event.Event.TheVariants.{Claim, Commit, Drain}
use Rattle.jx_store.specs.declared.event.Reply.TheVariants.{Claimed, Committed}
use Rattle.jx_store.specs.declared.event.Taped.{Taped}
use Rattle.jx_store.specs.Setup.{Setup}
use Rattle.jx_store.specs.Machine.{Done, State, put, drain_by, does, start}
use Rattle.jx_store_plain.specs.Kept.{drains}
use Rattle.jx_store.proofs.Runs.{put_cases, push_cases, not_both}
use Rattle.std.proofs.lemmas.Option.{same_Some, none-some}
use Rattle.jx_store_plain.specs.Valid.{AllOf}
use Rattle.jx_store_plain.proofs.Tally.{was_claimed, was_committed}

module _ {V : Type 0} (P : ℕ → V → Type 0) where
  pub all_start : (p : Setup) (s : State V) → s ≡ start p → AllOf P s
  all_start p s e = subst (AllOf P) (sym e) record { parks = λ k d is. absurd (none-some d is); tape = λ i t is. absurd (none-some t is) }

  pub all_same : (s t : State V) → t ≡ s → AllOf P s → AllOf P t
  all_same s t e a = subst (AllOf P) (sym e) a

  pub all_claim : (s : State V) (w k seen : ℕ) → (does s (Claim w)).1 ≡ Claimed k seen → AllOf P s → AllOf P (does s (Claim w)).0
  all_claim s w k seen r a = subst (AllOf P) (sym (was_claimed s w k seen r).4) record { parks = a.parks; tape = a.tape }

  pub all_commit : (s : State V) (w k : ℕ) (v : V) → (does s (Commit w k v)).1 ≡ Committed → P k v → AllOf P s → AllOf P (does s (Commit w k v)).0
  all_commit s w k v r p a =
      let t = was_committed s w k v r in
      let d : Done V = record { by = t.0; value = v } in
      subst (AllOf P) (sym t.3) record {
        parks = λ j e is. elim (put_cases s.parked k (Some d) j) [
          | inl q ↦ (let same : d ≡ e = same_Some d e (sym q.1 ∙ is) in subst (λ (i : ℕ). P i e.value) (sym q.0) (subst (λ (f : Done V). P k f.value) same p))
          | inr q ↦ a.parks j e (sym q.1 ∙ is)
        ];
        tape = a.tape;
      }

  pub all_drain : (s : State V) → AllOf P s → AllOf P (does s Drain).0
  all_drain s a = by_parked (s.parked s.drained) refl where
    by_parked : (o : Option (Done V)) → s.parked s.drained ≡ o → AllOf P (drain_by s o).0
    by_parked None is = a
    by_parked (Some d) is = record {
      parks = λ j e at. elim (put_cases s.parked s.drained None j) [
        | inl q ↦ absurd (not_both (put s.parked s.drained None j) e q.1 at)
        | inr q ↦ a.parks j e (sym q.1 ∙ at)
      ];
      tape = λ i t at. elim (push_cases s.tape (record { number = s.drained; worker = d.by.worker; seen = d.by.seen; named = d.value }) i t at) [
        | inl was ↦ a.tape i t was
        | inr same ↦ subst (λ (u : Taped V). P u.number u.named) same (a.parks s.drained d is)
      ];
    }

  pub all_drains : (s : State V) (n : ℕ) → AllOf P s → AllOf P (drains s n)
  all_drains s zero a = a
  all_drains s (suc n) a = all_drains (does s Drain).0 n (all_drain s a)
