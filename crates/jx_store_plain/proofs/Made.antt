-- How many of the numbers that were committed have a value.
use Rattle.std.proofs.Common.{◌≡◌, ℕ, zero, suc, ◌+◌, ◌-◌, ◌<◌, ◌==◌, List, [], ◌∷◌, ◌++◌, refl, ap, ◌∙◌, inl, inr, arith}
use Rattle.std.specs.Prelude.{Option, Some, None}
use Rattle.std.proofs.Math.Path.{fun_ext}
use Rattle.std.proofs.lemmas.Bool.{cases_lt}
use Rattle.std.proofs.lemmas.Grind.{common_steps}
use Rattle.jx_store.specs.declared.event.Event.{Event}
use Rattle.jx_store.specs.declared.event.Event.TheVariants.{Claim, Commit, Drain}
use Rattle.jx_store.specs.declared.event.Reply.{Reply}
use Rattle.jx_store.specs.declared.event.Reply.TheVariants.{Claimed, Committed}
use Rattle.jx_store.specs.declared.event.Taped.{Taped}
use Rattle.jx_store.specs.declared.work.Named.{Named}
use Rattle.jx_store.specs.Setup.{Setup}
use Rattle.jx_store.specs.Machine.{Done, State, put, drain_by, does, start}
use Rattle.jx_store.specs.Order.{InOrder}
use Rattle.jx_store_plain.specs.Busy.{one_if, busy}
use Rattle.jx_store_plain.specs.Kept.{Kept, drains}
use Rattle.jx_store_plain.specs.Made.{one_made, made_at, made_on, made_in}
use Rattle.jx_store_plain.proofs.Changes.{through}
use Rattle.jx_store.proofs.Runs.{not_both}
use Rattle.jx_store_plain.proofs.Tally.{busy_put, busy_put_out, busy_front, was_claimed, was_committed, held_range, kept_drain, all_drained}

module _ {V : Type 0} where
  at_put : (m : ℕ → Option (Done (Named V))) (k : ℕ) (x : Option (Done (Named V))) → (λ (j : ℕ). made_at (put m k x j)) ≡ put (λ (j : ℕ). made_at (m j)) k (made_at x)
  at_put m k x = fun_ext (λ j. through made_at (j == k) x (m j))

  made_push : (tape : List (Taped (Named V))) (t : Taped (Named V)) → made_on (tape ++ t ∷ []) ≡ made_on tape + one_made t.named
  made_push tape t = grind (arith, common_steps)

  pub made_same : (s t : State (Named V)) (n : ℕ) → t ≡ s → made_in s ≡ n → made_in t ≡ n
  made_same s t n e was = ap made_in e ∙ was

  pub made_start : (p : Setup) (s : State (Named V)) → s ≡ start p → made_in s ≡ 0
  made_start p s e = ap made_in e ∙ (let z : p.first - p.first ≡ 0 = omega arith in rw z refl)

  pub made_claim : (log : List (Event (Named V) × Reply)) (s : State (Named V)) (w k seen : ℕ) → InOrder log s → (does s (Claim w)).1 ≡ Claimed k seen → made_in (does s (Claim w)).0 ≡ made_in s
  made_claim log s w k seen o r =
      let t = was_claimed s w k seen r in
      let m : ℕ → Option V = λ j. made_at (s.parked j) in
      let n = s.next - s.drained in
      let e : s.next + 1 - s.drained ≡ suc n = (let h = o.mid in omega arith) in
      let at : s.drained + n ≡ s.next = (let h = o.mid in omega arith) in
      let none : one_if (m (s.drained + n)) ≡ 0 = ap (λ (j : ℕ). one_if (m j)) at ∙ ap (λ (d : Option (Done (Named V))). one_if (made_at d)) (o.outside s.next (inr (omega arith))).1 in
      let all : busy m s.drained (s.next + 1 - s.drained) ≡ busy m s.drained (suc n) = ap (busy m s.drained) e in
      ap made_in t.4 ∙ omega (arith, all, none)

  pub made_commit : (log : List (Event (Named V) × Reply)) (s : State (Named V)) (w k : ℕ) (v : Named V) → InOrder log s → (does s (Commit w k v)).1 ≡ Committed → made_in (does s (Commit w k v)).0 ≡ made_in s + one_made v
  made_commit log s w k v o r =
      let t = was_committed s w k v r in
      let m : ℕ → Option V = λ j. made_at (s.parked j) in
      let d : Done (Named V) = record { by = t.0; value = v } in
      let range = held_range log s k t.0 o t.1 in
      let low = range.0 in let high = range.1 in
      let n = s.next - s.drained in
      let free : s.parked k ≡ None = elim (o.between k low high) [ inl h ↦ h.2 | inr h ↦ absurd (not_both (s.held k) t.0 h.1 t.1) ] in
      let more : busy (λ (j : ℕ). made_at (put s.parked k (Some d) j)) s.drained n ≡ busy m s.drained n + one_made v =
      ap (λ (f : ℕ → Option V). busy f s.drained n) (at_put s.parked k (Some d)) ∙ busy_put m k (made_at (Some d)) s.drained n low (omega arith) (ap made_at free) in
      ap made_in t.3 ∙ omega (arith, more)

  pub made_drain : (log : List (Event (Named V) × Reply)) (s : State (Named V)) → InOrder log s → made_in (does s Drain).0 ≡ made_in s
  made_drain log s o = by_parked (s.parked s.drained) refl where
    by_parked : (q : Option (Done (Named V))) → s.parked s.drained ≡ q → made_in (drain_by s q).0 ≡ made_in s
    by_parked None is = refl
    by_parked (Some d) is =
        let m : ℕ → Option V = λ j. made_at (s.parked j) in
        let more : s.drained < s.next = elim (cases_lt s.drained s.next) [ inl lt ↦ lt | inr le ↦ absurd (not_both (s.parked s.drained) d (o.outside s.drained (inr le)).1 is) ] in
        let n = s.next - (s.drained + 1) in
        let e : s.next - s.drained ≡ suc n = omega arith in
        let front = busy_front m s.drained n in
        let here : one_if (m s.drained) ≡ one_made d.value = ap (λ (x : Option (Done (Named V))). one_if (made_at x)) is in
        let all : busy m s.drained (s.next - s.drained) ≡ busy m s.drained (suc n) = ap (busy m s.drained) e in
        let rest : busy (λ (j : ℕ). made_at (put s.parked s.drained None j)) (s.drained + 1) n ≡ busy m (s.drained + 1) n =
        ap (λ (f : ℕ → Option V). busy f (s.drained + 1) n) (at_put s.parked s.drained None) ∙ busy_put_out m s.drained None (s.drained + 1) n (inl (omega arith)) in
        let grown = made_push s.tape (record { number = s.drained; worker = d.by.worker; seen = d.by.seen; named = d.value }) in
        omega (arith, front, here, all, rest, grown)

  pub made_drains : (p : Setup) (claims commits : ℕ) (s : State (Named V)) (n : ℕ) → Kept p claims commits s → made_in (drains s n) ≡ made_in s
  made_drains p claims commits s zero h = refl
  made_drains p claims commits s (suc n) h = made_drains p claims commits (does s Drain).0 n (kept_drain p claims commits s h) ∙ made_drain h.order.0 s h.order.1

  -- where as many were committed as were claimed, the tape has them all
  pub all_made : (p : Setup) (claims commits : ℕ) (s : State (Named V)) → Kept p claims commits s → s.parked s.drained ≡ None → commits ≡ claims → made_on s.tape ≡ made_in s
  all_made p claims commits s h idle e =
      let m : ℕ → Option V = λ j. made_at (s.parked j) in
      let end = all_drained p claims commits s h idle e in
      let z : s.next - s.drained ≡ 0 = omega arith in
      let none : busy m s.drained (s.next - s.drained) ≡ 0 = ap (busy m s.drained) z in
      omega (arith, none)
