-- Each event keeps the order.
use Rattle.std.proofs.Common.{◌≡◌, ◌≢◌, ℕ, zero, suc, ◌+◌, ◌-◌, ◌<◌, ◌≤◌, ◌==◌, ◌⊎◌, Bool, true, false, cond, List, [], ◌∷◌, ◌++◌, map, refl, sym, ap, subst, ◌∙◌, inl, inr, arith, append_assoc, append-nil}
use Rattle.std.specs.Prelude.{Option, Some, None, slice_get, Contains}
use Rattle.std.proofs.lemmas.Bool.{cases_eq, cases_lt}
use Rattle.std.proofs.lemmas.Bool.Decides.{nat_tests}
use Rattle.std.proofs.lemmas.List.{map-append}
use Rattle.std.proofs.lemmas.List.Elements.{Contains-append_left, Contains-push}
use Rattle.std.proofs.lemmas.Option.{none-some, same_Some}
use Rattle.jx_store.specs.declared.event.Event.{Event}
use Rattle.jx_store.specs.declared.event.Event.TheVariants.{Claim, Commit, Drain}
use Rattle.jx_store.specs.declared.event.Reply.{Reply}
use Rattle.jx_store.specs.declared.event.Reply.TheVariants.{Claimed, Full, AllClaimed, Committed, Foreign, Drained, Nothing}
use Rattle.jx_store.specs.declared.event.Taped.{Taped}
use Rattle.jx_store.specs.Setup.{Setup, Within}
use Rattle.jx_store.specs.Legal.{log_of}
use Rattle.jx_store.proofs.Loads.{load_rest}
use Rattle.jx_store.proofs.Changes.{not_full}
use Rattle.jx_store.specs.Machine.{Claimant, Done, State, put, start, end, is_full, claimed, committed, drained_one, commit_by, drain_by, does, runs}
use Rattle.jx_store.specs.Order.{numbers, claim_in, commit_in, claims_in, commits_in, Given, by_of, InOrder, AlwaysInOrder}

module _ {X : Type 0} where
  pub put_same : (m : ℕ → Option X) (k : ℕ) (x : Option X) (j : ℕ) → j ≡ k → put m k x j ≡ x
  put_same m k x j e = grind (arith, nat_tests)

  pub put_other : (m : ℕ → Option X) (k : ℕ) (x : Option X) (j : ℕ) → j ≢ k → put m k x j ≡ m j
  put_other m k x j ne = grind (arith, nat_tests)

  pub put_cases : (m : ℕ → Option X) (k : ℕ) (x : Option X) (j : ℕ) → ((j ≡ k) × (put m k x j ≡ x)) ⊎ ((j ≢ k) × (put m k x j ≡ m j))
  put_cases m k x j = elim (cases_eq j k) [ inl e ↦ inl (e, put_same m k x j e) | inr ne ↦ inr (ne, put_other m k x j ne) ]

  pub cond_cases : (b : Bool) (x y : X) → ((b ≡ true) × (cond b x y ≡ x)) ⊎ ((b ≡ false) × (cond b x y ≡ y))
  cond_cases true x y = inl (refl, refl)
  cond_cases false x y = inr (refl, refl)

-- a number more than a list of them
numbers_more : (a b : ℕ) → a ≤ b → numbers a (b + 1 - a) ≡ numbers a (b - a) ++ b ∷ []
numbers_more a b le =
    let e : b + 1 - a ≡ suc (b - a) = omega arith in
    let f : a + (b - a) ≡ b = omega arith in
    ap (numbers a) e ∙ ap (λ (k : ℕ). numbers a (b - a) ++ k ∷ []) f

pub not_both : {X : Type 0} (o : Option X) (x : X) → o ≡ None → o ≡ Some x → ⊥
not_both o x none some = cc

pub push_cases : {X : Type 0} (xs : List X) (x : X) (i : ℕ) (y : X) → slice_get (xs ++ x ∷ []) i ≡ Some y → (slice_get xs i ≡ Some y) ⊎ (x ≡ y)
push_cases [] x zero y is = inr (same_Some x y is)
push_cases [] x (suc i) y is = absurd (none-some y is)
push_cases (z ∷ zs) x zero y is = inl is
push_cases (z ∷ zs) x (suc i) y is = push_cases zs x i y is

module _ {V : Type 0} where
  claims_in-append : (xs ys : List (Event V × Reply)) → claims_in (xs ++ ys) ≡ claims_in xs ++ claims_in ys
  claims_in-append [] ys = refl
  claims_in-append (x ∷ xs) ys = ap (λ zs. claim_in x.0 x.1 ++ zs) (claims_in-append xs ys) ∙ sym (append_assoc (claim_in x.0 x.1) (claims_in xs) (claims_in ys))

  commits_in-append : (xs ys : List (Event V × Reply)) → commits_in (xs ++ ys) ≡ commits_in xs ++ commits_in ys
  commits_in-append [] ys = refl
  commits_in-append (x ∷ xs) ys = ap (λ zs. commit_in x.0 x.1 ++ zs) (commits_in-append xs ys) ∙ sym (append_assoc (commit_in x.0 x.1) (commits_in xs) (commits_in ys))

  claims_push : (xs : List (Event V × Reply)) (e : Event V) (r : Reply) → claims_in (xs ++ (e, r) ∷ []) ≡ claims_in xs ++ claim_in e r
  claims_push xs e r = claims_in-append xs ((e, r) ∷ []) ∙ ap (λ zs. claims_in xs ++ zs) (append-nil (claim_in e r))

  commits_push : (xs : List (Event V × Reply)) (e : Event V) (r : Reply) → commits_in (xs ++ (e, r) ∷ []) ≡ commits_in xs ++ commit_in e r
  commits_push xs e r = commits_in-append xs ((e, r) ∷ []) ∙ ap (λ zs. commits_in xs ++ zs) (append-nil (commit_in e r))

  given_more : (xs : List (Event V × Reply)) (e : Event V) (r : Reply) (p : Setup) (k : ℕ) (c : Claimant) → Given xs p k c → Given (xs ++ (e, r) ∷ []) p k c
  given_more xs e r p k c g = (rw (claims_push xs e r) (Contains-append_left (claims_in xs) (claim_in e r) (k, c) g.0), g.1)

  committed_more : (xs : List (Event V × Reply)) (e : Event V) (r : Reply) (x : ℕ × ℕ × V) → Contains (commits_in xs) x → Contains (commits_in (xs ++ (e, r) ∷ [])) x
  committed_more xs e r x g = rw (commits_push xs e r) (Contains-append_left (commits_in xs) (commit_in e r) x g)

  -- nothing changed
  same_state : (xs : List (Event V × Reply)) (s : State V) (e : Event V) (r : Reply) → claim_in e r ≡ [] → InOrder xs s → InOrder (xs ++ (e, r) ∷ []) s
  same_state xs s e r none o = record {
    low = o.low;
    mid = o.mid;
    high = o.high;
    near = o.near;
    light = o.light;
    claims = ap (map (λ p. p.0)) (claims_push xs e r ∙ ap (λ zs. claims_in xs ++ zs) none ∙ append-nil (claims_in xs)) ∙ o.claims;
    between = o.between;
    outside = o.outside;
    holds = λ k c is. given_more xs e r s.setup k c (o.holds k c is);
    parks = λ k d is. let p = o.parks k d is in (given_more xs e r s.setup k d.by p.0, committed_more xs e r (k, d.by.worker, d.value) p.1);
    tape = o.tape;
    each = λ i t is. let p = o.each i t is in (given_more xs e r s.setup t.number (by_of t) p.0, committed_more xs e r (t.number, t.worker, t.named) p.1);
  }

  on_claim : (xs : List (Event V × Reply)) (s : State V) (w : ℕ) → InOrder xs s → s.next ≢ end s → is_full s ≡ false
      → InOrder (xs ++ (Claim w, Claimed s.next s.drained) ∷ []) (claimed s w)
  on_claim xs s w o some room =
      let n = s.next in
      let me : Claimant = record { worker = w; seen = s.drained } in
      let ys = xs ++ (Claim w, Claimed n s.drained) ∷ [] in
      let free = not_full s room in
      let apart = free.0 in
      let after : n < s.drained + s.setup.window = (let h = o.near in let m = o.mid in omega arith) in
      let within : Within s.setup s.drained n = (o.mid, after, elim free.1 [ inl le ↦ inl (let m = o.mid in omega arith) | inr fits ↦ inr fits ]) in
      let mine : Given ys s.setup n me = (rw (claims_push xs (Claim w) (Claimed n s.drained)) (Contains-push (claims_in xs) (n, me)), within) in
      record {
        low = o.low;
        mid = (let h = o.mid in omega arith);
        high = (let h = o.high in omega arith);
        near = omega arith;
        light = elim free.1 [ inl le ↦ inl (omega arith) | inr fits ↦ inr fits ];
        claims = ap (map (λ p. p.0)) (claims_push xs (Claim w) (Claimed n s.drained)) ∙ map-append (λ (p : ℕ × Claimant). p.0) (claims_in xs) ((n, me) ∷ []) ∙ ap (λ (ks : List ℕ). ks ++ n ∷ []) o.claims ∙ sym (numbers_more s.setup.first n (let h = o.low in let h' = o.mid in omega arith));
        between = λ k dk kn. elim (put_cases s.held n (Some me) k) [
          | inl p ↦ inl (me, p.1, (o.outside k (inr (let e = p.0 in omega arith))).1)
          | inr p ↦ (let ne = p.0 in elim (o.between k dk (omega arith)) [ inl h ↦ inl (h.0, p.1 ∙ h.1, h.2) | inr h ↦ inr (h.0, p.1 ∙ h.1, h.2) ])
        ];
        outside = λ k out. elim (put_cases s.held n (Some me) k) [
          | inl p ↦ (let e = p.0 in let h = o.mid in elim out [ inl lt ↦ absurd (omega arith) | inr le ↦ absurd (omega arith) ])
          | inr p ↦ (let was = o.outside k (elim out [ inl lt ↦ inl lt | inr le ↦ inr (omega arith) ]) in (p.1 ∙ was.0, was.1))
        ];
        holds = λ k c is. elim (put_cases s.held n (Some me) k) [
          | inl p ↦ (let same : me ≡ c = same_Some me c (sym p.1 ∙ is) in let P : ℕ → Claimant → Type 0 = λ j d. Given ys s.setup j d in subst (λ (j : ℕ). P j c) (sym p.0) (subst (P n) same mine))
          | inr p ↦ given_more xs (Claim w) (Claimed n s.drained) s.setup k c (o.holds k c (sym p.1 ∙ is))
        ];
        parks = λ k d is. let p = o.parks k d is in (given_more xs (Claim w) (Claimed n s.drained) s.setup k d.by p.0, committed_more xs (Claim w) (Claimed n s.drained) (k, d.by.worker, d.value) p.1);
        tape = o.tape;
        each = λ i t is. let p = o.each i t is in (given_more xs (Claim w) (Claimed n s.drained) s.setup t.number (by_of t) p.0, committed_more xs (Claim w) (Claimed n s.drained) (t.number, t.worker, t.named) p.1);
      }

  on_commit : (xs : List (Event V × Reply)) (s : State V) (w k : ℕ) (v : V) (c : Claimant) → InOrder xs s → s.held k ≡ Some c → c.worker ≡ w
      → InOrder (xs ++ (Commit w k v, Committed) ∷ []) (committed s k v c)
  on_commit xs s w k v c o at by =
      let e : Event V = Commit w k v in
      let ys = xs ++ (e, Committed) ∷ [] in
      let d : Done V = record { by = c; value = v } in
      let range : (s.drained ≤ k) × (k < s.next) = elim (cases_lt k s.drained) [
        | inl lt ↦ absurd (not_both (s.held k) c (o.outside k (inl lt)).0 at)
        | inr dk ↦ elim (cases_lt k s.next) [ inl kn ↦ (dk, kn) | inr nk ↦ absurd (not_both (s.held k) c (o.outside k (inr nk)).0 at) ]
      ] in
      let value : Contains (commits_in ys) (k, c.worker, v) = rw (commits_push xs e Committed, by) (Contains-push (commits_in xs) (k, w, v)) in
      record {
        low = o.low;
        mid = o.mid;
        high = o.high;
        near = o.near;
        light = o.light;
        claims = ap (map (λ p. p.0)) (claims_push xs e Committed ∙ append-nil (claims_in xs)) ∙ o.claims;
        between = λ j dj jn. elim (cases_eq j k) [
          | inl e ↦ inr (d, put_same s.held k None j e, put_same s.parked k (Some d) j e)
          | inr ne ↦ elim (o.between j dj jn) [
            | inl h ↦ inl (h.0, put_other s.held k None j ne ∙ h.1, put_other s.parked k (Some d) j ne ∙ h.2)
            | inr h ↦ inr (h.0, put_other s.held k None j ne ∙ h.1, put_other s.parked k (Some d) j ne ∙ h.2)
          ]
        ];
        outside = λ j out. let ne : j ≢ k = λ e. elim out [ inl lt ↦ (let h = range.0 in omega arith) | inr le ↦ (let h = range.1 in omega arith) ] in
            let was = o.outside j out in (put_other s.held k None j ne ∙ was.0, put_other s.parked k (Some d) j ne ∙ was.1);
        holds = λ j a is. elim (put_cases s.held k None j) [
          | inl p ↦ absurd (not_both (put s.held k None j) a p.1 is)
          | inr p ↦ given_more xs e Committed s.setup j a (o.holds j a (sym p.1 ∙ is))
        ];
        parks = λ j a is. elim (put_cases s.parked k (Some d) j) [
          | inl p ↦ (let same : d ≡ a = same_Some d a (sym p.1 ∙ is) in
              let P : ℕ → Done V → Type 0 = λ i b. Given ys s.setup i b.by × Contains (commits_in ys) (i, b.by.worker, b.value) in
              subst (λ (i : ℕ). P i a) (sym p.0) (subst (P k) same (given_more xs e Committed s.setup k c (o.holds k c at), value)))
          | inr p ↦ (let h = o.parks j a (sym p.1 ∙ is) in (given_more xs e Committed s.setup j a.by h.0, committed_more xs e Committed (j, a.by.worker, a.value) h.1))
        ];
        tape = o.tape;
        each = λ i t is. let p = o.each i t is in (given_more xs e Committed s.setup t.number (by_of t) p.0, committed_more xs e Committed (t.number, t.worker, t.named) p.1);
      }

  on_drain : (xs : List (Event V × Reply)) (s : State V) (d : Done V) → InOrder xs s → s.parked s.drained ≡ Some d
      → InOrder (xs ++ (Drain, Drained s.drained) ∷ []) (drained_one s d)
  on_drain xs s d o at =
      let e : Event V = Drain in
      let r = Drained s.drained in
      let n = s.drained in
      let t : Taped V = record { number = n; worker = d.by.worker; seen = d.by.seen; named = d.value } in
      let more : n < s.next = elim (cases_lt n s.next) [ inl lt ↦ lt | inr le ↦ absurd (not_both (s.parked n) d (o.outside n (inr le)).1 at) ] in
      let free : s.held n ≡ None = elim (o.between n (omega arith) more) [ inl h ↦ absurd (not_both (s.parked n) d h.2 at) | inr h ↦ h.1 ] in
      record {
        low = (let h = o.low in omega arith);
        mid = omega arith;
        high = o.high;
        near = (let h = o.near in omega arith);
        light = elim o.light [ inl le ↦ inl (omega arith) | inr fits ↦ inr (let rest = load_rest s.setup n s.next o.low more in omega arith) ];
        claims = ap (map (λ p. p.0)) (claims_push xs e r ∙ append-nil (claims_in xs)) ∙ o.claims;
        between = λ j dj jn. (let ne : j ≢ n = omega arith in elim (o.between j (omega arith) jn) [
          | inl h ↦ inl (h.0, h.1, put_other s.parked n None j ne ∙ h.2)
          | inr h ↦ inr (h.0, h.1, put_other s.parked n None j ne ∙ h.2)
        ]);
        outside = λ j out. elim (cases_eq j n) [
          | inl e ↦ (ap s.held e ∙ free, put_same s.parked n None j e)
          | inr ne ↦ (let was = o.outside j (elim out [ inl lt ↦ inl (omega arith) | inr le ↦ inr le ]) in (was.0, put_other s.parked n None j ne ∙ was.1))
        ];
        holds = λ j a is. given_more xs e r s.setup j a (o.holds j a is);
        parks = λ j a is. elim (put_cases s.parked n None j) [
          | inl p ↦ absurd (not_both (put s.parked n None j) a p.1 is)
          | inr p ↦ (let h = o.parks j a (sym p.1 ∙ is) in (given_more xs e r s.setup j a.by h.0, committed_more xs e r (j, a.by.worker, a.value) h.1))
        ];
        tape = map-append (λ (t : Taped V). t.number) s.tape (t ∷ []) ∙ ap (λ (ks : List ℕ). ks ++ n ∷ []) o.tape ∙ sym (numbers_more s.setup.first n o.low);
        each = λ i u is. elim (push_cases s.tape t i u is) [
          | inl was ↦ (let p = o.each i u was in (given_more xs e r s.setup u.number (by_of u) p.0, committed_more xs e r (u.number, u.worker, u.named) p.1))
          | inr same ↦ (let h = o.parks n d at in
              let P : Taped V → Type 0 = λ b. Given (xs ++ (e, r) ∷ []) s.setup b.number (by_of b) × Contains (commits_in (xs ++ (e, r) ∷ [])) (b.number, b.worker, b.named) in
              subst P same (given_more xs e r s.setup n d.by h.0, committed_more xs e r (n, d.by.worker, d.value) h.1))
        ];
      }

  abbrev pub Next : List (Event V × Reply) → Event V → State V × Reply → Type 0
  Next xs e p = InOrder (xs ++ (e, p.1) ∷ []) p.0

  pub on_each : (xs : List (Event V × Reply)) (s : State V) (e : Event V) → InOrder xs s → Next xs e (does s e)
  on_each xs s (Claim w) o =
      let e : Event V = Claim w in
      let full : State V × Reply = (s, Full s.next s.drained) in
      let made : State V × Reply = (claimed s w, Claimed s.next s.drained) in
      let inner = cond (is_full s) full made in
      elim (cond_cases (s.next == end s) (s, AllClaimed) inner) [
        | inl p ↦ subst (Next xs e) (sym p.1) (same_state xs s e AllClaimed refl o)
        | inr p ↦ subst (Next xs e) (sym p.1) (elim (cond_cases (is_full s) full made) [
          | inl q ↦ subst (Next xs e) (sym q.1) (same_state xs s e (Full s.next s.drained) refl o)
          | inr q ↦ subst (Next xs e) (sym q.1) (on_claim xs s w o (let h = p.0 in grind (arith, nat_tests)) (let h = q.0 in grind (arith, nat_tests)))
        ])
      ]
  on_each xs s (Commit w k v) o = by_holder (s.held k) refl where
    by_holder : (h : Option Claimant) → s.held k ≡ h → Next xs (Commit w k v) (commit_by s w k v h)
    by_holder None is = same_state xs s (Commit w k v) Foreign refl o
    by_holder (Some c) is = let done : State V × Reply = (committed s k v c, Committed) in let not : State V × Reply = (s, Foreign) in elim (cond_cases (c.worker == w) done not) [
      | inl p ↦ subst (Next xs (Commit w k v)) (sym p.1) (on_commit xs s w k v c o is (let h = p.0 in grind (arith, nat_tests)))
      | inr p ↦ subst (Next xs (Commit w k v)) (sym p.1) (same_state xs s (Commit w k v) Foreign refl o)
    ]
  on_each xs s Drain o = by_parked (s.parked s.drained) refl where
    by_parked : (h : Option (Done V)) → s.parked s.drained ≡ h → Next xs Drain (drain_by s h)
    by_parked None is = same_state xs s Drain Nothing refl o
    by_parked (Some d) is = on_drain xs s d o is

  on_all : (xs : List (Event V × Reply)) (s : State V) (es : List (Event V)) → InOrder xs s → InOrder (xs ++ log_of s es) (runs s es)
  on_all xs s [] o = rw (append-nil xs) o
  on_all xs s (e ∷ es) o = rw (← append_assoc xs ((e, (does s e).1) ∷ []) (log_of (does s e).0 es)) (on_all (xs ++ (e, (does s e).1) ∷ []) (does s e).0 es (on_each xs s e o))

  at_start : (p : Setup) → 0 < p.window → InOrder {V = V} [] (start p)
  at_start p some = record {
    low = omega arith;
    mid = omega arith;
    high = omega arith;
    near = omega arith;
    light = inl (omega arith);
    claims = (let e : p.first - p.first ≡ 0 = omega arith in rw e refl);
    between = λ k dk kn. absurd (omega arith);
    outside = λ k out. (refl, refl);
    holds = λ k c is. absurd (none-some c is);
    parks = λ k d is. absurd (none-some d is);
    tape = (let e : p.first - p.first ≡ 0 = omega arith in rw e refl);
    each = λ i t is. absurd (none-some t is);
  }

pub always_in_order : (V : Type 0) → AlwaysInOrder V
always_in_order V p es some = on_all {V = V} [] (start p) es (at_start p some)
