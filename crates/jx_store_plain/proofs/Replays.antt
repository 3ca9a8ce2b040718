-- The history alone replays to the state but for the values.
use Rattle.std.proofs.Common.{◌≡◌, ℕ, ◌+◌, ◌==◌, cond, List, [], ◌∷◌, ◌++◌, map, refl, sym, ap, subst, ◌∙◌, inl, inr, arith, append_assoc, append-nil}
use Rattle.std.specs.Prelude.{Option, Some, None}
use Rattle.std.proofs.Math.Path.{fun_ext}
use Rattle.std.proofs.lemmas.Bool.Decides.{nat_tests}
use Rattle.std.proofs.lemmas.List.{map-append}
use Rattle.jx_store.specs.declared.event.Event.{Event}
use Rattle.jx_store.specs.declared.event.Event.TheVariants.{Claim, Commit, Drain}
use Rattle.jx_store.specs.declared.event.Reply.{Reply}
use Rattle.jx_store.specs.declared.event.Reply.TheVariants.{Claimed, Full, AllClaimed, Committed, Foreign, Drained, Nothing}
use Rattle.jx_store.specs.declared.event.Taped.{Taped}
use Rattle.jx_store_plain.specs.declared.history.Kind.{Kind}
use Rattle.jx_store_plain.specs.declared.history.Step.{Step}
use Rattle.jx_store.specs.Setup.{Setup}
use Rattle.jx_store.specs.Machine.{Claimant, Done, State, put, start, end, is_full, claimed, committed, drained_one, commit_by, drain_by, does, runs}
use Rattle.jx_store.specs.Legal.{log_of}
use Rattle.jx_store_plain.specs.Notes.{Notes, no_notes, tells, note, notes, kind_of}
use Rattle.jx_store_plain.specs.Recorded.{Recorded}
use Rattle.jx_store_plain.specs.Replays.{Blank, blank_done, blank_taped, erase, event_of, Remembers}
use Rattle.jx_store.proofs.Changes.{does_claim, does_commit, does_drain}
use Rattle.jx_store_plain.proofs.Changes.{through}
use Rattle.jx_store.proofs.Runs.{cond_cases}

abbrev events_in : Notes → List (Event Blank)
events_in n = map (λ (step : Step). event_of step.kind) n.steps

tells_events : (n : Notes) (k : Kind) → events_in (tells n k) ≡ events_in n ++ event_of k ∷ []
tells_events n k = map-append (λ (step : Step). event_of step.kind) n.steps (record { full = n.full; all = n.all; kind = k } ∷ [])

runs_append : (s : State Blank) (xs ys : List (Event Blank)) → runs s (xs ++ ys) ≡ runs (runs s xs) ys
runs_append s [] ys = refl
runs_append s (x ∷ xs) ys = runs_append (does s x).0 xs ys

module _ {V : Type 0} where
  -- the event, where its reply says that it changed the state
  abbrev change_in : Event V → Reply → List (Event Blank)
  change_in e (Claimed k seen) = event_of (kind_of e) ∷ []
  change_in e (Full next drained) = []
  change_in e AllClaimed = []
  change_in e Committed = event_of (kind_of e) ∷ []
  change_in e Foreign = []
  change_in e (Drained k) = event_of (kind_of e) ∷ []
  change_in e Nothing = []

  abbrev changes_in : List (Event V × Reply) → List (Event Blank)
  changes_in [] = []
  changes_in (x ∷ xs) = change_in x.0 x.1 ++ changes_in xs

  note_events : (n : Notes) (e : Event V) (r : Reply) → events_in (note n e r) ≡ events_in n ++ change_in e r
  note_events n e (Claimed k seen) = tells_events n (kind_of e)
  note_events n e (Full next drained) = sym (append-nil (events_in n))
  note_events n e AllClaimed = sym (append-nil (events_in n))
  note_events n e Committed = tells_events n (kind_of e)
  note_events n e Foreign = sym (append-nil (events_in n))
  note_events n e (Drained k) = tells_events n (kind_of e)
  note_events n e Nothing = sym (append-nil (events_in n))

  notes_events : (n : Notes) (log : List (Event V × Reply)) → events_in (notes n log) ≡ events_in n ++ changes_in log
  notes_events n [] = sym (append-nil (events_in n))
  notes_events n (x ∷ xs) = notes_events (note n x.0 x.1) xs ∙ ap (λ (l : List (Event Blank)). l ++ changes_in xs) (note_events n x.0 x.1) ∙ append_assoc (events_in n) (change_in x.0 x.1) (changes_in xs)

  erase_committed : (s : State V) (k : ℕ) (v : V) (c : Claimant) → erase (committed s k v c) ≡ committed (erase s) k tt c
  erase_committed s k v c =
      let d : Done V = record { by = c; value = v } in
      let b : Done Blank = record { by = c; value = tt } in
      let parked : (λ (j : ℕ). blank_done (put s.parked k (Some d) j)) ≡ put (λ (j : ℕ). blank_done (s.parked j)) k (Some b) =
      fun_ext (λ j. through blank_done (j == k) (Some d) (s.parked j)) in
      ap (λ (m : ℕ → Option (Done Blank)). record (erase s) { held = put s.held k None; parked = m }) parked

  erase_drained : (s : State V) (d : Done V) → erase (drained_one s d) ≡ drained_one (erase s) (record { by = d.by; value = tt })
  erase_drained s d =
      let parked : (λ (j : ℕ). blank_done (put s.parked s.drained None j)) ≡ put (λ (j : ℕ). blank_done (s.parked j)) s.drained None =
      fun_ext (λ j. through blank_done (j == s.drained) None (s.parked j)) in
      let t : Taped V = record { number = s.drained; worker = d.by.worker; seen = d.by.seen; named = d.value } in
      let tape = map-append blank_taped s.tape (t ∷ []) in
      ap (λ (m : ℕ → Option (Done Blank)). record (erase s) { drained = s.drained + 1; parked = m; tape = map blank_taped (s.tape ++ t ∷ []) }) parked
      ∙ ap (λ (l : List (Taped Blank)). record (erase s) { drained = s.drained + 1; parked = put (erase s).parked s.drained None; tape = l }) tape

  abbrev Erased : State V → Event V → State V × Reply → Type 0
  Erased s e p = erase p.0 ≡ runs (erase s) (change_in e p.1)

  erase_does : (s : State V) (e : Event V) → Erased s e (does s e)
  erase_does s (Claim w) =
      let e : Event V = Claim w in
      let full : State V × Reply = (s, Full s.next s.drained) in
      let made : State V × Reply = (claimed s w, Claimed s.next s.drained) in
      let inner = cond (is_full s) full made in
      elim (cond_cases (s.next == end s) (s, AllClaimed) inner) [
        | inl p ↦ subst (Erased s e) (sym p.1) refl
        | inr p ↦ subst (Erased s e) (sym p.1) (elim (cond_cases (is_full s) full made) [
          | inl q ↦ subst (Erased s e) (sym q.1) refl
          | inr q ↦ subst (Erased s e) (sym q.1) (sym (ap (λ r. r.0) (does_claim (erase s) w (let h = p.0 in grind (arith, nat_tests)) q.0)))
        ])
      ]
  erase_does s (Commit w k v) = by_holder (s.held k) refl where
    by_holder : (h : Option Claimant) → s.held k ≡ h → Erased s (Commit w k v) (commit_by s w k v h)
    by_holder None is = refl
    by_holder (Some c) is =
        let e : Event V = Commit w k v in let done : State V × Reply = (committed s k v c, Committed) in let not : State V × Reply = (s, Foreign) in
        elim (cond_cases (c.worker == w) done not) [
          | inl p ↦ subst (Erased s e) (sym p.1) (erase_committed s k v c ∙ sym (ap (λ r. r.0) (does_commit (erase s) w k tt c is (let h = p.0 in grind (arith, nat_tests)))))
          | inr p ↦ subst (Erased s e) (sym p.1) refl
        ]
  erase_does s Drain = by_parked (s.parked s.drained) refl where
    by_parked : (o : Option (Done V)) → s.parked s.drained ≡ o → Erased s Drain (drain_by s o)
    by_parked None is = refl
    by_parked (Some d) is = erase_drained s d ∙ sym (ap (λ r. r.0) (does_drain (erase s) (record { by = d.by; value = tt }) (ap blank_done is)))

  erase_runs : (s : State V) (es : List (Event V)) → erase (runs s es) ≡ runs (erase s) (changes_in (log_of s es))
  erase_runs s [] = refl
  erase_runs s (e ∷ es) =
      erase_runs (does s e).0 es
      ∙ ap (λ (t : State Blank). runs t (changes_in (log_of (does s e).0 es))) (erase_does s e)
      ∙ sym (runs_append (erase s) (change_in e (does s e).1) (changes_in (log_of (does s e).0 es)))

  events_of_log : (s : State V) (es : List (Event V)) → map (λ (x : Event V × Reply). x.0) (log_of s es) ≡ es
  events_of_log s [] = refl
  events_of_log s (e ∷ es) = ap (λ (l : List (Event V)). e ∷ l) (events_of_log (does s e).0 es)

  pub remembers : (p : Setup) (n : Notes) (s : State V) → Recorded p n s → Remembers p n s
  remembers p n s r =
      let s0 : State V = start p in
      let log = log_of s0 r.events in
      let es = events_of_log s0 r.events in
      record {
        log = log;
        legal = ap (log_of s0) es;
        leads = r.replays ∙ ap (runs s0) (sym es);
        kept = r.noted;
        alone = ap erase r.replays ∙ erase_runs s0 r.events ∙ ap (runs (erase s0)) (sym (notes_events no_notes log) ∙ ap events_in (sym r.noted));
      }
