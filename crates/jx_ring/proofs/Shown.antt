-- The state that a ring shows after each of its events, and how often a number stands in the lists.
use Rattle.std.proofs.Common.{◌≡◌, ℕ, zero, suc, ◌+◌, ◌-◌, ◌<◌, ◌≤◌, ◌==◌, nat_le, nat_lt, cond, ◌&&◌, List, [], ◌∷◌, ◌++◌, map, length, refl, sym, ap, subst, ◌∙◌, inl, inr, arith}
use Rattle.std.specs.List.{sum_by}
use Rattle.std.proofs.lemmas.Bool.{cases_lt}
use Rattle.std.proofs.lemmas.Bool.Decides.{nat_tests}
use Rattle.std.proofs.lemmas.List.{map-append}
use Rattle.std.proofs.lemmas.List.Sums.{sum_by-cons}
use mathlib.Core.Option.{some}
use lib.ListN.{get_elem?}
use Rattle.jx_store.specs.declared.event.Taped.{Taped}
use Rattle.jx_store.specs.declared.work.Named.{Named}
use Rattle.jx_store.specs.Setup.{Setup}
use Rattle.jx_store.specs.Machine.{State as Store}
use Rattle.jx_ring.specs.declared.view.Taken.{Taken}
use Rattle.jx_ring.specs.Claims.{taken, stretch}
use Rattle.jx_ring.specs.Rule.{Phase, free, held, parked, leaving, claim_in, InPhase}
use Rattle.jx_ring.specs.Shows.{shown, but_seen}
use Rattle.jx_ring.specs.Laws.{is_number, ClaimsStandOnce, ClaimIsEvent, CommitIsEvent, DrainIsEvent}
use Rattle.jx_ring.proofs.Counts.{stretch_same, stretch_first}
use Rattle.jx_ring.proofs.Claiming.{mine}
use Rattle.jx_ring.proofs.Claiming as claiming
use Rattle.jx_ring.proofs.Committing as committing
use Rattle.jx_ring.proofs.Draining as draining
use Rattle.jx_ring.proofs.Events.{claim_event, commit_event, drain_event}

module _ {V : Type 0} (p : Setup) (workers : ℕ) (Ok : ℕ → Named V → Type 0) where
  pub claim_is : ClaimIsEvent p workers Ok
  claim_is s r id v out at live no_hold low within below =
      let c = claiming.claimed p workers Ok s r id (v, out) at live no_hold low within below in
      let known = r.placed.seats id v at in
      let e = claim_event p r.drained r.next v.drained id v.worker r.phase r.tape low known.drained r.placed.mid below within in
      (c.1, (λ i. but_seen (shown p (c.2 i) (c.3 i) (c.4 i) (c.5 i))) ∙ e.0, e.1)

  pub commit_is : CommitIsEvent p workers Ok
  commit_is s r id v t e at live holds same valid =
      let c = committing.committed p workers Ok s r id v t e at live holds same valid in
      let mine_is = (r.placed.seats id v at).holds t holds in
      let q = commit_event p r.drained r.next id r.phase r.tape t e mine_is.0 mine_is.1 mine_is.2 same.1 same.2 in
      (c.0, (λ i. shown p (c.1 i) (c.2 i) (c.3 i) (c.4 i)) ∙ q.0, q.1)

  pub drain_is : DrainIsEvent p workers Ok
  drain_is s r id v t at live drains ok room =
      let c = draining.ended_at p workers Ok s r id v t (map taken t.items) at live drains refl ok room in
      let P = r.placed in let pos = P.some_slot in
      let mine = (P.seats id v at).drains (map taken t.items) drains in let e : Taped (Named V) = mine.1.0 in let is = mine.1.1 in
      let cell = (subst (InPhase p Ok r.drained r.next r.drained) is (P.cells r.drained (omega arith) (omega (arith, pos))).phase) in
      let q = drain_event p r.drained r.next id (r.drained + p.window) r.phase r.tape e cell.0 P.near is cell.1.number in
      let tape : r.tape ++ e ∷ [] ≡ _ = ap (λ (y : Store (Named V)). y.tape) q.0 in (
        c.0,
        record {
          after_is = (λ i. shown p (c.1 i) (c.2 i) (c.3 i) (c.4 i)) ∙ ap (λ (y : Store (Named V)). record y { tape = t.items }) q.0;
          entries = mine.1.2 ∙ sym (map-append taken r.tape (e ∷ [])) ∙ ap (map taken) tape;
          reply = q.1;
        },
        e,
        is,
        sym tape,
      )

  -- a stretch has a number once, where it has it
  once : (k a n : ℕ) → stretch (λ q. cond (q == k) 1 0) a n ≡ cond (nat_le a k && nat_lt k (a + n)) 1 0
  once k a zero = grind (arith, nat_tests)
  once k a (suc n) = (let below = once k a n in let e : a + suc n ≡ a + n + 1 = omega arith in grind (arith, nat_tests))

  tape_numbers : (k a : ℕ) (xs : List (Taped (Named V))) → ((i : ℕ) (e : Taped (Named V)) → get_elem? xs i ≡ some e → e.number ≡ a + i) → sum_by (is_number k) (map taken xs) ≡ stretch (λ q. cond (q == k) 1 0) a (length xs)
  tape_numbers k a [] each = refl
  tape_numbers k a (x ∷ xs) each =
      let below = tape_numbers k (a + 1) xs (λ i e at. let z = each (suc i) e at in omega (arith, z)) in
      let c = sum_by-cons (is_number k) (taken x) (map taken xs) in let f = stretch_first (λ q. cond (q == k) 1 0) a (length xs) in
      let n : x.number ≡ a = (let z = each 0 x refl in omega (arith, z)) in let g : ℕ → ℕ = λ q. cond (q == k) 1 0 in let h : g x.number ≡ g a = ap g n in
      let s = ap (λ (q : ℕ). stretch (λ j. cond (j == k) 1 0) q (length xs)) (let z : suc a ≡ a + 1 = omega arith in z) in
      omega (arith, below, c, f, h, s)

  names_it : (d n k : ℕ) (c : Phase V) → k < n → InPhase p Ok d n k c → (claim_in c).number ≡ k
  names_it d n k free lt i = absurd (omega (arith, i, lt))
  names_it d n k (held j t) lt i = i.1.0
  names_it d n k (parked e) lt i = i.1.number
  names_it d n k (leaving j e) lt i = i.1.number

  pub once_each : ClaimsStandOnce p workers Ok
  once_each s r k =
      let P = r.placed in let d : ℕ = r.drained in let n : ℕ = r.next in let F : Taken → ℕ = is_number k in let low = P.low in let mid = P.mid in let near = P.near in
      let l = r.listed F in
      let a = tape_numbers k p.first r.tape (λ i e at. (P.taped.each i e at).number) in
      let b = stretch_same (λ q. F (claim_in (r.phase q))) (λ q. cond (q == k) 1 0) d (n - d) (λ q dq qn. let g : ℕ → ℕ = λ x. cond (x == k) 1 0 in ap g (names_it d n q (r.phase q) (omega (arith, qn, mid)) (P.cells q dq (omega (arith, qn, mid, near))).phase)) in
      let x = once k p.first (length r.tape) in let y = once k d (n - d) in let long = P.long in
      let e1 : p.first + length r.tape ≡ d = omega (arith, long) in let e2 : d + (n - d) ≡ n = omega (arith, mid) in
      let x' : stretch (λ q. cond (q == k) 1 0) p.first (length r.tape) ≡ cond (nat_le p.first k && nat_lt k d) 1 0 = (let g : ℕ → ℕ = λ z. cond (nat_le p.first k && nat_lt k z) 1 0 in x ∙ ap g e1) in
      let y' : stretch (λ q. cond (q == k) 1 0) d (n - d) ≡ cond (nat_le d k && nat_lt k n) 1 0 = (let g : ℕ → ℕ = λ z. cond (nat_le d k && nat_lt k z) 1 0 in y ∙ ap g e2) in
      let both : cond (nat_le p.first k && nat_lt k d) 1 0 + cond (nat_le d k && nat_lt k n) 1 0 ≡ cond (nat_le p.first k && nat_lt k n) 1 0 = joined p.first d n k low mid in
      omega (arith, l, a, b, x', y', both)
    where
      joined : (f d n k : ℕ) → f ≤ d → d ≤ n → cond (nat_le f k && nat_lt k d) 1 0 + cond (nat_le d k && nat_lt k n) 1 0 ≡ cond (nat_le f k && nat_lt k n) 1 0
      joined f d n k fd dn = elim (cases_lt k d) [ inl lt ↦ grind (arith, nat_tests) | inr le ↦ grind (arith, nat_tests) ]
