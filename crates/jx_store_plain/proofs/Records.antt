-- Each event is recorded.
use Rattle.std.proofs.Common.{◌≡◌, ℕ, zero, suc, ◌+◌, List, [], ◌∷◌, ◌++◌, refl, sym, ap, subst, ◌∙◌, arith}
use Rattle.jx_store.specs.declared.event.Event.{Event}
use Rattle.jx_store.specs.declared.event.Event.TheVariants.{Drain}
use Rattle.jx_store.specs.declared.event.Reply.{Reply}
use Rattle.jx_store.specs.Setup.{Setup}
use Rattle.jx_store.specs.Machine.{State, Done, start, does, drain_by, runs}
use Rattle.jx_store.specs.Legal.{log_of}
use Rattle.jx_store_plain.specs.Kept.{drains}
use Rattle.std.proofs.Common.{length}
use Rattle.std.specs.Prelude.{Option, Some, None}
use Rattle.std.proofs.lemmas.Grind.{common_steps}
use Rattle.std.proofs.lemmas.List.{length_push}
use Rattle.jx_store_plain.specs.declared.history.Kind.{Kind}
use Rattle.jx_store_plain.specs.declared.history.Kind.TheVariants.{Drains}
use Rattle.jx_store_plain.specs.Notes.{Notes, no_notes, tells, count_full, count_all, count_claims, count_commits, is_claim, is_commit, note, notes}
use Rattle.jx_store_plain.specs.Recorded.{Recorded, Settled, drain_notes}

pub count_full_tells : (n : Notes) (k : Kind) → count_full (tells n k) ≡ count_full n
count_full_tells n k = grind (arith, common_steps)

pub count_all_tells : (n : Notes) (k : Kind) → count_all (tells n k) ≡ count_all n
count_all_tells n k = grind (arith, common_steps)

pub count_claims_tells : (n : Notes) (k : Kind) → count_claims (tells n k) ≡ count_claims n + is_claim k
count_claims_tells n k = grind (arith, common_steps)

pub count_commits_tells : (n : Notes) (k : Kind) → count_commits (tells n k) ≡ count_commits n + is_commit k
count_commits_tells n k = grind (arith, common_steps)

pub length_tells : (n : Notes) (k : Kind) → length (tells n k).steps ≡ length n.steps + 1
length_tells n k = length_push n.steps _

module _ {V : Type 0} where
  notes_push : (n : Notes) (xs : List (Event V × Reply)) (e : Event V) (r : Reply) → notes n (xs ++ (e, r) ∷ []) ≡ note (notes n xs) e r
  notes_push n [] e r = refl
  notes_push n (x ∷ xs) e r = notes_push (note n x.0 x.1) xs e r

  runs_push : (s : State V) (es : List (Event V)) (e : Event V) → runs s (es ++ e ∷ []) ≡ (does (runs s es) e).0
  runs_push s [] e = refl
  runs_push s (x ∷ xs) e = runs_push (does s x).0 xs e

  log_push : (s : State V) (es : List (Event V)) (e : Event V) → log_of s (es ++ e ∷ []) ≡ log_of s es ++ (e, (does (runs s es) e).1) ∷ []
  log_push s [] e = refl
  log_push s (x ∷ xs) e = ap (λ (l : List (Event V × Reply)). (x, (does s x).1) ∷ l) (log_push (does s x).0 xs e)

  counts_drain : (s : State V) (n : Notes) → (count_full (note {V = V} n Drain (does s Drain).1) ≡ count_full n) × (count_all (note {V = V} n Drain (does s Drain).1) ≡ count_all n)
  counts_drain s n = by_parked (s.parked s.drained) where
    by_parked : (o : Option (Done V)) → (count_full (note {V = V} n Drain (drain_by s o).1) ≡ count_full n) × (count_all (note {V = V} n Drain (drain_by s o).1) ≡ count_all n)
    by_parked None = (refl, refl)
    by_parked (Some d) = (count_full_tells n Drains, count_all_tells n Drains)

  pub recorded_start : (p : Setup) (s : State V) → s ≡ start p → Recorded p no_notes s
  recorded_start p s e = record { events = []; replays = e; noted = refl }

  pub recorded_step : (p : Setup) (n : Notes) (s : State V) (e : Event V) → Recorded p n s → Recorded p (note n e (does s e).1) (does s e).0
  recorded_step p n s e r =
      let s0 = start p in
      record {
        events = r.events ++ e ∷ [];
        replays = ap (λ (t : State V). (does t e).0) r.replays ∙ sym (runs_push s0 r.events e);
        noted = ap (λ (t : State V). note n e (does t e).1) r.replays ∙ ap (λ (m : Notes). note m e (does (runs s0 r.events) e).1) r.noted
            ∙ sym (notes_push no_notes (log_of s0 r.events) e (does (runs s0 r.events) e).1) ∙ ap (notes no_notes) (sym (log_push s0 r.events e));
      }

  pub recorded_drains : (p : Setup) (n : Notes) (s : State V) (m : ℕ) → Recorded p n s → Recorded p (drain_notes s n m) (drains s m)
  recorded_drains p n s zero r = r
  recorded_drains p n s (suc m) r = recorded_drains p (note {V = V} n Drain (does s Drain).1) (does s Drain).0 m (recorded_step p n s Drain r)

  pub drain_notes_more : (s : State V) (n : Notes) (m : ℕ) → note {V = V} (drain_notes s n m) Drain (does (drains s m) Drain).1 ≡ drain_notes s n (suc m)
  drain_notes_more s n zero = refl
  drain_notes_more s n (suc m) = drain_notes_more (does s Drain).0 (note {V = V} n Drain (does s Drain).1) m

  -- the same notes where nothing changed the notes or the state
  pub recorded_to : (p : Setup) (n n' : Notes) (s t : State V) (e : Event V) (r : Reply) → n' ≡ note n e r → (does s e).1 ≡ r → t ≡ (does s e).0 → Recorded p n s → Recorded p n' t
  recorded_to p n n' s t e r ne re te h =
      let P : Notes × State V → Type 0 = λ q. Recorded p q.0 q.1 in
      let same : note n e (does s e).1 ≡ n' = ap (note n e) re ∙ sym ne in
      let Q : Notes → Type 0 = λ m. Recorded p m (does s e).0 in
      subst (λ (u : State V). Recorded p n' u) (sym te) (subst Q same (recorded_step p n s e h))

  pub counts_drains : (s : State V) (n : Notes) (m : ℕ) → (count_full (drain_notes s n m) ≡ count_full n) × (count_all (drain_notes s n m) ≡ count_all n)
  counts_drains s n zero = (refl, refl)
  counts_drains s n (suc m) =
      let below = counts_drains (does s Drain).0 (note {V = V} n Drain (does s Drain).1) m in
      let here = counts_drain s n in
      (below.0 ∙ here.0, below.1 ∙ here.1)

  -- counts of claims and commits, whose events a drain does not change
  counts_drain_kinds : (s : State V) (n : Notes) → (count_claims (note {V = V} n Drain (does s Drain).1) ≡ count_claims n) × (count_commits (note {V = V} n Drain (does s Drain).1) ≡ count_commits n)
  counts_drain_kinds s n = by_parked (s.parked s.drained) where
    by_parked : (o : Option (Done V)) → (count_claims (note {V = V} n Drain (drain_by s o).1) ≡ count_claims n) × (count_commits (note {V = V} n Drain (drain_by s o).1) ≡ count_commits n)
    by_parked None = (refl, refl)
    by_parked (Some d) = ((let h = count_claims_tells n Drains in omega (arith, h)), (let h = count_commits_tells n Drains in omega (arith, h)))

  pub kinds_drains : (s : State V) (n : Notes) (m : ℕ) → (count_claims (drain_notes s n m) ≡ count_claims n) × (count_commits (drain_notes s n m) ≡ count_commits n)
  kinds_drains s n zero = (refl, refl)
  kinds_drains s n (suc m) =
      let below = kinds_drains (does s Drain).0 (note {V = V} n Drain (does s Drain).1) m in
      let here = counts_drain_kinds s n in
      (below.0 ∙ here.0, below.1 ∙ here.1)

  -- what a commit that was taken leads to
  pub settled_from : (s t u : State V) (n m o : Notes) (e : Event V) (r : Reply) → t ≡ (does s e).0 → (does s e).1 ≡ r → m ≡ note n e r → Settled t m u o → Settled (does s e).0 (note n e (does s e).1) u o
  settled_from s t u n m o e r te re me z =
      let same : m ≡ note n e (does s e).1 = me ∙ ap (note n e) (sym re) in
      subst (λ (x : Notes). Settled (does s e).0 x u o) same (subst (λ (x : State V). Settled x m u o) te z)

  -- nothing is left to drain
  pub settled_none : (s t : State V) (n : Notes) (e : Event V) (r : Reply) → t ≡ (does s e).0 → (does s e).1 ≡ r → n ≡ note n e r → t.parked t.drained ≡ None → Settled (does s e).0 (note n e (does s e).1) t n
  settled_none s t n e r te re me idle = settled_from s t t n n n e r te re me (0, refl, refl, idle, refl, refl)
