-- The counts of claims and commits.
use Rattle.std.proofs.Common.{◌≡◌, ◌≢◌, ℕ, zero, suc, ◌+◌, ◌-◌, ◌<◌, ◌≤◌, ◌==◌, ◌⊎◌, true, false, cond, List, [], ◌∷◌, ◌++◌, map, length, refl, sym, ap, subst, ◌∙◌, inl, inr, arith}
use Rattle.std.specs.Prelude.{Option, Some, None}
use Rattle.std.proofs.lemmas.Bool.{cases_eq, cases_lt, false≢true}
use Rattle.std.proofs.lemmas.Bool.Decides.{nat_tests}
use Rattle.std.proofs.lemmas.List.{length-map}
use Rattle.jx_store.specs.declared.event.Event.{Event}
use Rattle.jx_store.specs.declared.event.Event.TheVariants.{Claim, Commit, Drain}
use Rattle.jx_store.specs.declared.event.Reply.{Reply}
use Rattle.jx_store.specs.declared.event.Reply.TheVariants.{Claimed, Full, AllClaimed, Committed, Foreign, Drained}
use Rattle.jx_store.specs.declared.event.Taped.{Taped}
use Rattle.jx_store.specs.Setup.{Setup, load, Within}
use Rattle.jx_store.proofs.Changes.{not_full}
use Rattle.jx_store.specs.Machine.{Claimant, Done, State, put, end, is_full, claimed, committed, commit_by, drain_by, does, start}
use Rattle.jx_store.specs.Order.{InOrder, numbers}
use Rattle.jx_store_plain.specs.Busy.{one_if, busy}
use Rattle.jx_store_plain.specs.Kept.{Kept, drains}
use Rattle.jx_store_plain.specs.Shown.{Shown, state_of, parked_in}
use Rattle.jx_store.proofs.NumberLemmas.{length_numbers}
use Rattle.jx_store_plain.proofs.Windows.{slot_out}
use Rattle.jx_store.proofs.Runs.{always_in_order, on_each, cond_cases, put_same, put_other, not_both}

module _ {X : Type 0} where
  pub busy_put_out : (m : ℕ → Option X) (k : ℕ) (x : Option X) (a n : ℕ) → (k < a) ⊎ (a + n ≤ k) → busy (put m k x) a n ≡ busy m a n
  busy_put_out m k x a zero out = refl
  busy_put_out m k x a (suc n) out =
      let ne : a + n ≢ k = λ e. elim out [ inl lt ↦ omega arith | inr le ↦ omega arith ] in
      let here = put_other m k x (a + n) ne in
      let below = busy_put_out m k x a n (elim out [ inl lt ↦ inl lt | inr le ↦ inr (omega arith) ]) in
      ap (λ (b : ℕ). b + one_if (put m k x (a + n))) below ∙ ap (λ (o : Option X). busy m a n + one_if o) here

  busy_put_none : (m : ℕ → Option X) (k : ℕ) (x : X) (a n : ℕ) → a ≤ k → k < a + n → m k ≡ Some x → busy (put m k None) a n + 1 ≡ busy m a n
  busy_put_none m k x a zero ak kn is = absurd (omega arith)
  busy_put_none m k x a (suc n) ak kn is =
      elim (cases_eq (a + n) k) [
        | inl e ↦ (let here : put m k None (a + n) ≡ None = put_same m k None (a + n) e in
            let was : m (a + n) ≡ Some x = ap m e ∙ is in
            let below = busy_put_out m k None a n (inr (omega arith)) in
            let h1 : one_if (put m k None (a + n)) ≡ 0 = ap one_if here in
            let h2 : one_if (m (a + n)) ≡ 1 = ap one_if was in
            omega (arith, below, h1, h2))
        | inr ne ↦ (let same : one_if (put m k None (a + n)) ≡ one_if (m (a + n)) = ap one_if (put_other m k None (a + n) ne) in
            let below = busy_put_none m k x a n ak (omega arith) is in
            omega (arith, same, below))
      ]

  pub busy_put : (m : ℕ → Option X) (k : ℕ) (x : Option X) (a n : ℕ) → a ≤ k → k < a + n → m k ≡ None → busy (put m k x) a n ≡ busy m a n + one_if x
  busy_put m k x a zero ak kn is = absurd (omega arith)
  busy_put m k x a (suc n) ak kn is =
      elim (cases_eq (a + n) k) [
        | inl e ↦ (let here : one_if (put m k x (a + n)) ≡ one_if x = ap one_if (put_same m k x (a + n) e) in
            let was : one_if (m (a + n)) ≡ 0 = ap one_if (ap m e ∙ is) in
            let below = busy_put_out m k x a n (inr (omega arith)) in
            omega (arith, below, here, was))
        | inr ne ↦ (let same : one_if (put m k x (a + n)) ≡ one_if (m (a + n)) = ap one_if (put_other m k x (a + n) ne) in
            let below = busy_put m k x a n ak (omega arith) is in
            omega (arith, same, below))
      ]

  pub busy_front : (m : ℕ → Option X) (a n : ℕ) → busy m a (suc n) ≡ one_if (m a) + busy m (a + 1) n
  busy_front m a zero = (let e : a + 0 ≡ a = omega arith in rw e (omega arith))
  busy_front m a (suc n) =
      let below = busy_front m a n in
      let e : a + suc n ≡ a + 1 + n = omega arith in
      let same : one_if (m (a + suc n)) ≡ one_if (m (a + 1 + n)) = ap (λ (k : ℕ). one_if (m k)) e in
      omega (arith, below, same)

module _ {V : Type 0} where
  -- what a reply tells of the event
  pub was_claimed : (s : State V) (w k seen : ℕ) → (does s (Claim w)).1 ≡ Claimed k seen
      → (s.next ≢ end s) × (is_full s ≡ false) × (k ≡ s.next) × (seen ≡ s.drained) × ((does s (Claim w)).0 ≡ claimed s w)
  was_claimed s w k seen r =
      let full : State V × Reply = (s, Full s.next s.drained) in
      let made : State V × Reply = (claimed s w, Claimed s.next s.drained) in
      let all : State V × Reply = (s, AllClaimed) in
      let inner = cond (is_full s) full made in
      elim (cond_cases (s.next == end s) all inner) [
        | inl p ↦ absurd (let e : AllClaimed ≡ Claimed k seen = sym (ap (λ q. q.1) p.1) ∙ r in cc)
        | inr p ↦ elim (cond_cases (is_full s) full made) [
          | inl q ↦ absurd (let e : Full s.next s.drained ≡ Claimed k seen = sym (ap (λ q. q.1) (p.1 ∙ q.1)) ∙ r in cc)
          | inr q ↦ (let e : Claimed s.next s.drained ≡ Claimed k seen = sym (ap (λ q. q.1) (p.1 ∙ q.1)) ∙ r in
              let is : k ≡ s.next = cc in let is' : seen ≡ s.drained = cc in
              ((let h = p.0 in grind (arith, nat_tests)), q.0, is, is', ap (λ q. q.0) (p.1 ∙ q.1)))
        ]
      ]

  pub kept_claim : (p : Setup) (claims commits : ℕ) (s : State V) (w k seen : ℕ) → Kept p claims commits s → (does s (Claim w)).1 ≡ Claimed k seen
      → Kept p (claims + 1) commits (does s (Claim w)).0
  kept_claim p claims commits s w k seen h r =
      let t = was_claimed s w k seen r in
      let o = h.order.1 in
      let next : InOrder (h.order.0 ++ (Claim w, (does s (Claim w)).1) ∷ []) (does s (Claim w)).0 = on_each h.order.0 s (Claim w) o in
      let me : Claimant = record { worker = w; seen = s.drained } in
      let P : State V → Type 0 = λ s'. ((log : List (Event V × Reply)) × InOrder log s') → Kept p (claims + 1) commits s' in
      subst P (sym t.4) (λ order. record {
        setup_is = h.setup_is;
        claims_is = (let e = h.claims_is in omega arith);
        commits_is = (let n = s.next - s.drained in
            let e : s.next + 1 - s.drained ≡ suc n = (let m = o.mid in omega arith) in
            let at : s.drained + n ≡ s.next = (let m = o.mid in omega arith) in
            let below = busy_put_out s.held s.next (Some me) s.drained n (inr (omega arith)) in
            let here : one_if (put s.held s.next (Some me) (s.drained + n)) ≡ 1 = ap one_if (put_same s.held s.next (Some me) (s.drained + n) at) in
            let all : busy (put s.held s.next (Some me)) s.drained (s.next + 1 - s.drained) ≡ busy (put s.held s.next (Some me)) s.drained (suc n) = ap (busy (put s.held s.next (Some me)) s.drained) e in
            let was = h.commits_is in
            omega (arith, below, here, all, was));
        order = order;
      }) (h.order.0 ++ (Claim w, (does s (Claim w)).1) ∷ [], next)

  pub was_committed : (s : State V) (w k : ℕ) (v : V) → (does s (Commit w k v)).1 ≡ Committed
      → (c : Claimant) × (s.held k ≡ Some c) × (c.worker ≡ w) × ((does s (Commit w k v)).0 ≡ committed s k v c)
  was_committed s w k v r = by_holder (s.held k) refl r where
    by_holder : (h : Option Claimant) → s.held k ≡ h → (commit_by s w k v h).1 ≡ Committed → (c : Claimant) × (h ≡ Some c) × (c.worker ≡ w) × ((commit_by s w k v h).0 ≡ committed s k v c)
    by_holder None is r = absurd (cc)
    by_holder (Some c) is r =
        let done : State V × Reply = (committed s k v c, Committed) in let not : State V × Reply = (s, Foreign) in
        elim (cond_cases (c.worker == w) done not) [
          | inl p ↦ (c, refl, (let h = p.0 in grind (arith, nat_tests)), ap (λ q. q.0) p.1)
          | inr p ↦ absurd (let e : Foreign ≡ Committed = sym (ap (λ q. q.1) p.1) ∙ r in cc)
        ]

  kept_order : (p : Setup) (claims commits : ℕ) (s : State V) (e : Event V) → Kept p claims commits s → (log : List (Event V × Reply)) × InOrder log (does s e).0
  kept_order p claims commits s e h = (h.order.0 ++ (e, (does s e).1) ∷ [], on_each h.order.0 s e h.order.1)

  pub held_range : (log : List (Event V × Reply)) (s : State V) (k : ℕ) (c : Claimant) → InOrder log s → s.held k ≡ Some c → (s.drained ≤ k) × (k < s.next)
  held_range log s k c o at = elim (cases_lt k s.drained) [
    | inl lt ↦ absurd (not_both (s.held k) c (o.outside k (inl lt)).0 at)
    | inr dk ↦ elim (cases_lt k s.next) [ inl kn ↦ (dk, kn) | inr nk ↦ absurd (not_both (s.held k) c (o.outside k (inr nk)).0 at) ]
  ]

  pub kept_commit : (p : Setup) (claims commits : ℕ) (s : State V) (w k : ℕ) (v : V) → Kept p claims commits s → (does s (Commit w k v)).1 ≡ Committed
      → Kept p claims (commits + 1) (does s (Commit w k v)).0
  kept_commit p claims commits s w k v h r =
      let t = was_committed s w k v r in
      let c = t.0 in
      let P : State V → Type 0 = λ s'. ((log : List (Event V × Reply)) × InOrder log s') → Kept p claims (commits + 1) s' in
      let range = held_range h.order.0 s k c h.order.1 t.1 in
      subst P (sym t.3) (λ order. record {
        setup_is = h.setup_is;
        claims_is = h.claims_is;
        commits_is = (let n = s.next - s.drained in
            let less = busy_put_none s.held k c s.drained n range.0 (let a = range.0 in let b = range.1 in omega arith) t.1 in
            let was = h.commits_is in omega (arith, less, was));
        order = order;
      }) (kept_order p claims commits s (Commit w k v) h)

  pub kept_drain : (p : Setup) (claims commits : ℕ) (s : State V) → Kept p claims commits s → Kept p claims commits (does s Drain).0
  kept_drain p claims commits s h = by_parked (s.parked s.drained) refl (kept_order p claims commits s Drain h) where
    by_parked : (q : Option (Done V)) → s.parked s.drained ≡ q → ((log : List (Event V × Reply)) × InOrder log (drain_by s q).0) → Kept p claims commits (drain_by s q).0
    by_parked None is order = record { setup_is = h.setup_is; claims_is = h.claims_is; commits_is = h.commits_is; order = order }
    by_parked (Some d) is order =
        let o = h.order.1 in
        let more : s.drained < s.next = elim (cases_lt s.drained s.next) [ inl lt ↦ lt | inr le ↦ absurd (not_both (s.parked s.drained) d (o.outside s.drained (inr le)).1 is) ] in
        let free : s.held s.drained ≡ None = elim (o.between s.drained (omega arith) more) [ inl q ↦ absurd (not_both (s.parked s.drained) d q.2 is) | inr q ↦ q.1 ] in
        record {
          setup_is = h.setup_is;
          claims_is = h.claims_is;
          commits_is = (let n = s.next - (s.drained + 1) in
              let e : s.next - s.drained ≡ suc n = omega arith in
              let front = busy_front s.held s.drained n in
              let none : one_if (s.held s.drained) ≡ 0 = ap one_if free in
              let all : busy s.held s.drained (s.next - s.drained) ≡ busy s.held s.drained (suc n) = ap (busy s.held s.drained) e in
              let was = h.commits_is in omega (arith, front, none, all, was));
          order = order;
        }

  pub kept_same : (p : Setup) (claims commits : ℕ) (s t : State V) → t ≡ s → Kept p claims commits s → Kept p claims commits t
  kept_same p claims commits s t e h = subst (Kept p claims commits) (sym e) h

  -- where as many were committed as were claimed, all are drained
  pub all_drained : (p : Setup) (claims commits : ℕ) (s : State V) → Kept p claims commits s → s.parked s.drained ≡ None → commits ≡ claims → s.drained ≡ s.next
  all_drained p claims commits s h idle e =
      let o = h.order.1 in
      elim (cases_lt s.drained s.next) [
        | inl lt ↦ absurd (elim (o.between s.drained (omega arith) lt) [
          | inl q ↦ (let n = s.next - (s.drained + 1) in
              let e' : s.next - s.drained ≡ suc n = omega arith in
              let front = busy_front s.held s.drained n in
              let one : one_if (s.held s.drained) ≡ 1 = ap one_if q.1 in
              let all : busy s.held s.drained (s.next - s.drained) ≡ busy s.held s.drained (suc n) = ap (busy s.held s.drained) e' in
              let was = h.commits_is in omega (arith, front, one, all, was))
          | inr q ↦ not_both (s.parked s.drained) q.0 idle q.2
        ])
        | inr le ↦ (let m = o.mid in omega arith)
      ]

  -- the tape then has them all
  pub all_on_tape : (p : Setup) (claims commits : ℕ) (s : State V) → Kept p claims commits s → s.parked s.drained ≡ None → commits ≡ claims → length s.tape ≡ claims
  all_on_tape p claims commits s h idle e =
      let o = h.order.1 in
      let end = all_drained p claims commits s h idle e in
      let long : length (map (λ (t : Taped V). t.number) s.tape) ≡ length (numbers s.setup.first (s.drained - s.setup.first)) = ap length o.tape in
      let c = h.claims_is in
      let l1 = length-map s.tape (λ (t : Taped V). t.number) in
      let l2 = length_numbers s.setup.first (s.drained - s.setup.first) in
      omega (arith, long, l1, l2, c, end)

  pub was_drained : (c : Shown V) (k : ℕ) → (does (state_of c) Drain).1 ≡ Drained k
      → (c.drained < c.next) × ((does (state_of c) Drain).0.drained ≡ c.drained + 1) × ((does (state_of c) Drain).0.next ≡ c.next)
  was_drained c k r = by_parked ((state_of c).parked c.drained) refl r where
    by_parked : (p : Option (Done V)) → (state_of c).parked c.drained ≡ p → (drain_by (state_of c) p).1 ≡ Drained k
        → (c.drained < c.next) × ((drain_by (state_of c) p).0.drained ≡ c.drained + 1) × ((drain_by (state_of c) p).0.next ≡ c.next)
    by_parked None is r = absurd (cc)
    by_parked (Some d) is r = (
      elim (cases_lt c.drained c.next) [ inl lt ↦ lt | inr le ↦ absurd (not_both ((state_of c).parked c.drained) d (ap parked_in (slot_out c.drained c.next c.setup.window c.slots c.drained (inr le))) is) ],
      refl,
      refl,
    )

  pub was_idle : (s : State V) → ((k : ℕ) → (does s Drain).1 ≡ Drained k → ⊥) → ((does s Drain).0 ≡ s) × (s.parked s.drained ≡ None)
  was_idle s not = by_parked (s.parked s.drained) refl not where
    by_parked : (p : Option (Done V)) → s.parked s.drained ≡ p → ((k : ℕ) → (drain_by s p).1 ≡ Drained k → ⊥) → ((drain_by s p).0 ≡ s) × (p ≡ None)
    by_parked None is not = (refl, refl)
    by_parked (Some d) is not = absurd (not s.drained refl)

  pub drains_more : (s : State V) (n : ℕ) → (does (drains s n) Drain).0 ≡ drains s (suc n)
  drains_more s zero = refl
  drains_more s (suc n) = drains_more (does s Drain).0 n

  pub kept_drains : (p : Setup) (claims commits : ℕ) (s : State V) (n : ℕ) → Kept p claims commits s → Kept p claims commits (drains s n)
  kept_drains p claims commits s zero h = h
  kept_drains p claims commits s (suc n) h = kept_drains p claims commits (does s Drain).0 n (kept_drain p claims commits s h)

  -- a claim that was refused
  pub was_refused : (s : State V) (w : ℕ) → ((k seen : ℕ) → (does s (Claim w)).1 ≡ Claimed k seen → ⊥) → (does s (Claim w)).0 ≡ s
  was_refused s w not =
      let full : State V × Reply = (s, Full s.next s.drained) in
      let made : State V × Reply = (claimed s w, Claimed s.next s.drained) in
      let all : State V × Reply = (s, AllClaimed) in
      let inner = cond (is_full s) full made in
      elim (cond_cases (s.next == end s) all inner) [
        | inl p ↦ ap (λ q. q.0) p.1
        | inr p ↦ elim (cond_cases (is_full s) full made) [
          | inl q ↦ ap (λ q. q.0) (p.1 ∙ q.1)
          | inr q ↦ absurd (not s.next s.drained (ap (λ q. q.1) (p.1 ∙ q.1)))
        ]
      ]

  -- why a window is full
  pub full_cause : (s : State V) → s.drained ≤ s.next → is_full s ≡ true → (s.next ≡ s.drained + s.setup.window) ⊎ ((s.drained < s.next) × (s.setup.most < load s.setup s.drained (s.next + 1)))
  full_cause s mid full = elim (cases_eq (s.next - s.drained) s.setup.window) [
    | inl e ↦ inl (omega arith)
    | inr ne ↦ elim (cases_lt s.drained s.next) [
      | inl lt ↦ elim (cases_lt s.setup.most (load s.setup s.drained (s.next + 1))) [
        | inl over ↦ inr (lt, over)
        | inr fits ↦ absurd (let f : is_full s ≡ false = grind (arith, nat_tests) in false≢true (sym f ∙ full))
      ]
      | inr le ↦ absurd (let f : is_full s ≡ false = grind (arith, nat_tests) in false≢true (sym f ∙ full))
    ]
  ]

  pub was_full : (s : State V) (w a b : ℕ) → (does s (Claim w)).1 ≡ Full a b → (s.next ≢ end s) × (is_full s ≡ true) × (a ≡ s.next) × (b ≡ s.drained)
  was_full s w a b r =
      let full : State V × Reply = (s, Full s.next s.drained) in
      let made : State V × Reply = (claimed s w, Claimed s.next s.drained) in
      let all : State V × Reply = (s, AllClaimed) in
      let inner = cond (is_full s) full made in
      elim (cond_cases (s.next == end s) all inner) [
        | inl p ↦ absurd (let e : AllClaimed ≡ Full a b = sym (ap (λ q. q.1) p.1) ∙ r in cc)
        | inr p ↦ elim (cond_cases (is_full s) full made) [
          | inl q ↦ (let e : Full s.next s.drained ≡ Full a b = sym (ap (λ q. q.1) (p.1 ∙ q.1)) ∙ r in
              let is : a ≡ s.next = cc in let is' : b ≡ s.drained = cc in ((let h = p.0 in grind (arith, nat_tests)), q.0, is, is'))
          | inr q ↦ absurd (let e : Claimed s.next s.drained ≡ Full a b = sym (ap (λ q. q.1) (p.1 ∙ q.1)) ∙ r in cc)
        ]
      ]

  pub was_foreign : (s : State V) (w k : ℕ) (v : V) → ((does s (Commit w k v)).1 ≡ Committed → ⊥) → (does s (Commit w k v)).0 ≡ s
  was_foreign s w k v not = by_holder (s.held k) not where
    by_holder : (h : Option Claimant) → ((commit_by s w k v h).1 ≡ Committed → ⊥) → (commit_by s w k v h).0 ≡ s
    by_holder None not = refl
    by_holder (Some c) not =
        let done : State V × Reply = (committed s k v c, Committed) in let none : State V × Reply = (s, Foreign) in
        elim (cond_cases (c.worker == w) done none) [
          | inl p ↦ absurd (not (ap (λ q. q.1) p.1))
          | inr p ↦ ap (λ q. q.0) p.1
        ]

  abbrev pub Idle : State V → Type 0
  Idle s = s.parked s.drained ≡ None

  pub idle_claim : (s : State V) (w k seen : ℕ) → (does s (Claim w)).1 ≡ Claimed k seen → Idle s → Idle (does s (Claim w)).0
  idle_claim s w k seen r idle = subst Idle (sym (was_claimed s w k seen r).4) idle

  -- what a claim tells, where the numbers claimed are counted
  pub claim_told : (p : Setup) (claims commits : ℕ) (s : State V) (w k seen : ℕ) → Kept p claims commits s → (does s (Claim w)).1 ≡ Claimed k seen
      → (k ≡ p.first + claims) × (k < p.first + length p.sizes) × (p.first ≤ seen) × Within p seen k
  claim_told p claims commits s w k seen h r =
      let t = was_claimed s w k seen r in let o = h.order.1 in
      let low = o.low in let m = o.mid in let n = o.near in let top = o.high in let c = h.claims_is in
      let free = not_full s t.1 in let apart = free.0 in let some = t.0 in
      let told : (s.next ≡ s.setup.first + claims) × (s.next < end s) × (s.setup.first ≤ s.drained) × Within s.setup s.drained s.next =
      (omega arith, omega arith, low, (m, omega arith, elim free.1 [ inl le ↦ inl (omega arith) | inr fits ↦ inr fits ])) in
      let P : Setup → Type 0 = λ q. (s.next ≡ q.first + claims) × (s.next < q.first + length q.sizes) × (q.first ≤ s.drained) × Within q s.drained s.next in
      let Q : ℕ → ℕ → Type 0 = λ i j. (i ≡ p.first + claims) × (i < p.first + length p.sizes) × (p.first ≤ j) × Within p j i in
      subst (λ (i : ℕ). Q i seen) (sym t.2) (subst (Q s.next) (sym t.3) (subst P h.setup_is told))

  -- what a refusal tells
  pub full_told : (p : Setup) (claims commits : ℕ) (s : State V) (w a b : ℕ) → Kept p claims commits s → (does s (Claim w)).1 ≡ Full a b
      → (p.first ≤ b) × (a < p.first + length p.sizes) × ((a ≡ b + p.window) ⊎ ((b < a) × (p.most < load p b (a + 1))))
  full_told p claims commits s w a b h r =
      let t = was_full s w a b r in let o = h.order.1 in
      let top = o.high in let some = t.0 in
      let told : (s.setup.first ≤ s.drained) × (s.next < end s) × ((s.next ≡ s.drained + s.setup.window) ⊎ ((s.drained < s.next) × (s.setup.most < load s.setup s.drained (s.next + 1)))) =
      (o.low, omega arith, full_cause s o.mid t.1) in
      let Q : Setup → ℕ → ℕ → Type 0 = λ q i j. (q.first ≤ j) × (i < q.first + length q.sizes) × ((i ≡ j + q.window) ⊎ ((j < i) × (q.most < load q j (i + 1)))) in
      subst (λ (i : ℕ). Q p i b) (sym t.2) (subst (λ (j : ℕ). Q p s.next j) (sym t.3) (subst (λ (q : Setup). Q q s.next s.drained) h.setup_is told))

  pub kept_start : (p : Setup) (s : State V) → 0 < p.window → s ≡ start p → Kept p 0 0 s
  kept_start p s some e =
      let P : State V → Type 0 = λ t. Kept p 0 0 t in
      subst P (sym e) (record {
        setup_is = refl;
        claims_is = omega arith;
        commits_is = (let z : p.first - p.first ≡ 0 = omega arith in rw z refl);
        order = ([], always_in_order V p [] some);
      })

  pub was_all : (s : State V) (w : ℕ) → ((k seen : ℕ) → (does s (Claim w)).1 ≡ Claimed k seen → ⊥) → ((a b : ℕ) → (does s (Claim w)).1 ≡ Full a b → ⊥) → (does s (Claim w)).1 ≡ AllClaimed
  was_all s w not not' =
      let full : State V × Reply = (s, Full s.next s.drained) in
      let made : State V × Reply = (claimed s w, Claimed s.next s.drained) in
      let all : State V × Reply = (s, AllClaimed) in
      let inner = cond (is_full s) full made in
      elim (cond_cases (s.next == end s) all inner) [
        | inl p ↦ ap (λ q. q.1) p.1
        | inr p ↦ elim (cond_cases (is_full s) full made) [
          | inl q ↦ absurd (not' s.next s.drained (ap (λ q. q.1) (p.1 ∙ q.1)))
          | inr q ↦ absurd (not s.next s.drained (ap (λ q. q.1) (p.1 ∙ q.1)))
        ]
      ]

  pub was_foreign_reply : (s : State V) (w k : ℕ) (v : V) → ((does s (Commit w k v)).1 ≡ Committed → ⊥) → (does s (Commit w k v)).1 ≡ Foreign
  was_foreign_reply s w k v not = by_holder (s.held k) not where
    by_holder : (h : Option Claimant) → ((commit_by s w k v h).1 ≡ Committed → ⊥) → (commit_by s w k v h).1 ≡ Foreign
    by_holder None not = refl
    by_holder (Some c) not =
        let done : State V × Reply = (committed s k v c, Committed) in let none : State V × Reply = (s, Foreign) in
        elim (cond_cases (c.worker == w) done none) [
          | inl p ↦ absurd (not (ap (λ q. q.1) p.1))
          | inr p ↦ ap (λ q. q.1) p.1
        ]
