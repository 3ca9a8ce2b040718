-- Loads keep the rule, and tell what they found.
use Rattle.std.proofs.Common.{◌≡◌, ℕ, ◌+◌, ◌/◌, ◌%◌, ◌<◌, ◌≤◌, ◌⊎◌, List, get_or, set, refl, sym, ap, subst, ◌∙◌, inl, inr, arith}
use Rattle.std.specs.Prelude.{Option, Some}
use Rattle.std.specs.List.{sum_by}
use Rattle.std.proofs.lemmas.Bool.{cases_eq, cases_lt}
use Rattle.std.proofs.lemmas.Bool.Decides.{nat_tests}
use Rattle.std.proofs.lemmas.Option.{same_Some}
use mathlib.Core.Option.{some, none}
use lib.ListN.{get_elem?}
use lib.Seq.{set-get_or}
use Rattle.atomic_table.specs.Table.{State, Allows, keeps, step, stepped}
use Rattle.jx_store.specs.declared.work.Named.{Named}
use Rattle.jx_store.specs.Setup.{Setup}
use Rattle.jx_ring.specs.declared.view.Taken.{Taken}
use Rattle.jx_ring.specs.declared.view.RingView.{RingView}
use Rattle.jx_ring.specs.declared.view.Place.{Place}
use Rattle.jx_ring.specs.Claims.{claims_of}
use Rattle.jx_ring.specs.Rule.{Phase, free, held, parked, leaving, up, odd, before, face, InPhase, Knows, draining, Ring}
use Rattle.jx_ring.specs.Told.{Seated, sees_drained, sees_next, sees_committed, saw_drained, saw_next, saw_word}
use Rattle.jx_ring.proofs.Counts.{sum_same}
use Rattle.jx_ring.proofs.Cells.{looked}
use Rattle.jx_ring.proofs.Rolls.{roster_set}

pub odd_bit : {V : Type 0} (c : Phase V) → odd c ≤ 1
odd_bit free = omega arith
odd_bit (held j t) = omega arith
odd_bit (parked e) = omega arith
odd_bit (leaving j e) = omega arith

pub before_low : (p : Setup) (k : ℕ) → 0 < p.window → before p k < k + 1
before_low p k pos = grind (arith, nat_tests)

module _ {V : Type 0} (p : Setup) (workers : ℕ) (Ok : ℕ → Named V → Type 0) where
  -- a view that holds, drains and stands for the same as another
  pub record Alike (v w : RingView) : Type 0 where
    pub worker : w.worker ≡ v.worker
    pub stands : w.stands ≡ v.stands
    pub done : w.done ≡ v.done
    pub holds : w.holds ≡ v.holds
    pub drains : w.drains ≡ v.drains

  pub unmoved : (s : State (Place V) RingView) (r : Ring p workers Ok s) (i me : ℕ) (cs : List (ℕ × Place V)) (v w : RingView) → get_elem? s.views me ≡ some v → Alike v w
      → Knows r.drained r.next r.phase r.tape me w → Ring p workers Ok (stepped s i (get_or s.words i 0) me cs w keeps)
  unmoved s r i me cs v w at same mine = subst (λ (ws : List ℕ). Ring p workers Ok record { words = ws; homes = s.homes; views = set s.views me w }) (sym (set-get_or s.words i 0)) record {
    drained = r.drained;
    next = r.next;
    phase = r.phase;
    tape = r.tape;
    placed = looked p Ok r.drained r.next me r.phase r.tape s.words s.homes s.views w r.placed mine;
    listed = λ F. sum_same (λ (x : RingView). sum_by F (claims_of x)) s.views me v w at (let d = same.done in let h = same.holds in rw (d, h) refl) ∙ r.listed F;
    roster = roster_set workers (odd (r.phase r.drained)) (odd (r.phase r.drained)) s.views me v w r.roster at same.stands same.worker
        (λ e. let was = (r.roster.own me v at).0 (sym same.stands ∙ e) in (same.done ∙ was.0, same.holds ∙ was.1, same.drains ∙ was.2)) (ap (λ (x : Option (List Taken)). draining x + odd (r.phase r.drained)) same.drains);
  }

  alike : (v : RingView) → Alike v v
  alike v = record { worker = refl; stands = refl; done = refl; holds = refl; drains = refl }

  -- nothing changes
  pub stays : (s : State (Place V) RingView) (r : Ring p workers Ok s) (i me : ℕ) (cs : List (ℕ × Place V)) (v : RingView) → get_elem? s.views me ≡ some v
      → Ring p workers Ok (stepped s i (get_or s.words i 0) me cs v keeps)
  stays s r i me cs v at = unmoved s r i me cs v v at (alike v) (r.placed.seats me v at)

  pub half : (s : State (Place V) RingView) (r : Ring p workers Ok s) → get_or s.words 1 0 / 2 ≡ r.drained
  half s r = (let is = r.placed.drain_is in let bit = odd_bit (r.phase r.drained) in omega (arith, is, bit))

  pub looks_drained : (n id : ℕ) (me : Seated V) → Allows (Ring p workers Ok) n id me 1 (λ x. x) (λ r m. saw_drained p (step n 1 0 0 none) me r m)
  looks_drained n id me s r wide at lt =
      let is = half s r in let k = r.placed.seats id me.0 at in let d : ℕ = get_or s.words 1 0 / 2 in (
        sees_drained me.0 d,
        keeps,
        tt,
        unmoved s r 1 id me.1 me.0 (sees_drained me.0 d) at (record { worker = refl; stands = refl; done = refl; holds = refl; drains = refl })
            (record { drained = omega (arith, is); next = k.next; committed = k.committed; holds = k.holds; drains = λ l e. (is, (k.drains l e).1); finished = k.finished }),
        (refl, (let a = k.drained in omega (arith, is, a)), (let a = r.placed.low in omega (arith, is, a)), (let a = r.placed.mid in let b = r.placed.high in omega (arith, is, a, b))),
      )

  pub looks_next : (n id : ℕ) (me : Seated V) → Allows (Ring p workers Ok) n id me 0 (λ x. x) (λ r m. saw_next p (step n 0 0 0 none) me r m)
  looks_next n id me s r wide at lt =
      let is = r.placed.next_is in let k = r.placed.seats id me.0 at in let x : ℕ = get_or s.words 0 0 in (
        sees_next me.0 x,
        keeps,
        tt,
        unmoved s r 0 id me.1 me.0 (sees_next me.0 x) at (record { worker = refl; stands = refl; done = refl; holds = refl; drains = refl })
            (record { drained = k.drained; next = omega (arith, is); committed = k.committed; holds = k.holds; drains = k.drains; finished = k.finished }),
        (refl, (let a = k.next in omega (arith, is, a)), (let a = k.drained in let b = r.placed.mid in omega (arith, is, a, b)), (let a = r.placed.high in omega (arith, is, a))),
      )

  shows_up : (d n k : ℕ) (c : Phase V) → 0 < p.window → face p k c ≡ k + 1 → InPhase p Ok d n k c → (k < n) × (up c ≡ 1)
  shows_up d n k free pos e i = (let b = before_low p k pos in absurd (omega (arith, b, e)))
  shows_up d n k (held j t) pos e i = (let b = before_low p k pos in absurd (omega (arith, b, e)))
  shows_up d n k (parked x) pos e i = (i.0, refl)
  shows_up d n k (leaving j x) pos e i = (i.0, refl)

  pub looks_word : (n id i : ℕ) (me : Seated V) → i ≡ me.0.drained % p.window + 2 → Allows (Ring p workers Ok) n id me i (λ x. x) (λ r m. saw_word p (step n i 0 0 none) me r m)
  looks_word n id i me place s r wide at lt =
      let k = r.placed.seats id me.0 at in let x : ℕ = get_or s.words i 0 in let d : ℕ = me.0.drained in
      elim (cases_eq x (d + 1)) [
        | inl is ↦ (
            let w : RingView = sees_committed me.0 in
            let seen : (q : ℕ) → w.committed ≡ Some q → (q < r.drained) ⊎ ((q < r.next) × (up (r.phase q) ≡ 1)) = λ q e.
            let dq = same_Some d q e in subst (λ (z : ℕ). (z < r.drained) ⊎ ((z < r.next) × (up (r.phase z) ≡ 1))) dq (
            elim (cases_lt d r.drained) [
              | inl less ↦ inl less
              | inr more ↦ inr (let here = k.drained in let cell = r.placed.cells d (omega (arith, here, more)) (let s0 = r.placed.some_slot in omega (arith, here, s0)) in
                  shows_up r.drained r.next d (r.phase d) r.placed.some_slot (sym cell.shows ∙ ap (λ (z : ℕ). get_or s.words z 0) (sym place) ∙ is) cell.phase)
            ]) in (
              w,
              keeps,
              tt,
              unmoved s r i id me.1 me.0 w at (record { worker = refl; stands = refl; done = refl; holds = refl; drains = refl })
                  (record { drained = k.drained; next = k.next; committed = seen; holds = k.holds; drains = k.drains; finished = k.finished }),
              ((λ _. refl), (λ ne. absurd (ne is))),
            ))
        | inr ne ↦ (me.0, keeps, tt, stays s r i id me.1 me.0 at, ((λ e. absurd (ne e)), (λ _. refl)))
      ]
