-- Each step of the ring that changes what it shows is an event of the store machine.
use Rattle.std.proofs.Common.{◌≡◌, ℕ, ◌+◌, ◌-◌, ◌<◌, ◌≤◌, ◌⊎◌, ◌==◌, nat_le, nat_lt, Bool, true, false, cond, ◌&&◌, ◌||◌, List, [], ◌∷◌, ◌++◌, map, refl, sym, ap, ◌∙◌, inl, inr, arith}
use Rattle.std.specs.Prelude.{Option, Some, None, option_map}
use Rattle.std.proofs.Math.Path.{fun_ext}
use Rattle.std.proofs.lemmas.Bool.{cases_eq, cases_lt}
use Rattle.std.proofs.lemmas.Bool.Decides.{nat_tests}
use Rattle.jx_store.specs.declared.event.Event.TheVariants.{Claim, Commit, Drain}
use Rattle.jx_store.specs.declared.event.Reply.TheVariants.{Claimed, Committed, Drained}
use Rattle.jx_store.specs.declared.event.Taped.{Taped}
use Rattle.jx_store.specs.declared.work.Named.{Named}
use Rattle.jx_store.specs.Setup.{Setup, load, end_of, Within}
use Rattle.jx_store.specs.Machine.{Claimant, Done, State as Store, put as sets, is_full, does}
use Rattle.jx_store.proofs.Changes.{does_claim, does_commit, does_drain}
use Rattle.jx_ring.specs.declared.view.Taken.{Taken}
use Rattle.jx_ring.specs.Claims.{put}
use Rattle.jx_ring.specs.Rule.{Phase, free, held, parked, leaving}
use Rattle.jx_ring.specs.Shows.{held_in, parked_in, shown, unseen, unseen_done, unseen_taped, but_seen}
use Rattle.jx_ring.proofs.Counts.{put_here, put_else}
use Rattle.jx_ring.proofs.Claiming.{load_shorter}

module _ {V : Type 0} where
  same_store : (p : Setup) (d n : ℕ) (h h' : ℕ → Option Claimant) (q q' : ℕ → Option (Done V)) (t : List (Taped V)) → ((k : ℕ) → h k ≡ h' k) → ((k : ℕ) → q k ≡ q' k)
      → ◌≡◌ {A = Store V} (record { setup = p; next = n; drained = d; held = h; parked = q; tape = t }) (record { setup = p; next = n; drained = d; held = h'; parked = q'; tape = t })
  same_store p d n h h' q q' t eh eq = (let a = fun_ext eh in let b = fun_ext eq in λ i. record { setup = p; next = n; drained = d; held = a i; parked = b i; tape = t })

module _ {X V : Type 0} (f : Phase V → Option X) where
  -- what the numbers d to n - 1 show
  abbrev between : ℕ → ℕ → (ℕ → Phase V) → ℕ → Option X
  between d n ph k = cond (nat_le d k && nat_lt k n) (f (ph k)) None

  pub between_in : (d n : ℕ) (ph : ℕ → Phase V) (k : ℕ) → d ≤ k → k < n → between d n ph k ≡ f (ph k)
  between_in d n ph k dk kn = (let a : nat_le d k ≡ true = grind (arith, nat_tests) in let b : nat_lt k n ≡ true = grind (arith, nat_tests) in rw (a, b) refl)

  pub between_out : (d n : ℕ) (ph : ℕ → Phase V) (k : ℕ) → (k < d) ⊎ (n ≤ k) → between d n ph k ≡ None
  between_out d n ph k (inl lt) = (let a : nat_le d k ≡ false = grind (arith, nat_tests) in rw a refl)
  between_out d n ph k (inr le) = (let b : nat_lt k n ≡ false = grind (arith, nat_tests) in let c : (nat_le d k && false) ≡ false = and_false (nat_le d k) in ap (λ (t : Bool). cond (nat_le d k && t) (f (ph k)) None) b ∙ ap (λ (t : Bool). cond t (f (ph k)) None) c)
    where
      and_false : (t : Bool) → (t && false) ≡ false
      and_false true = refl
      and_false false = refl

  -- one number more
  pub between_more : (d n : ℕ) (ph : ℕ → Phase V) (c : Phase V) (k : ℕ) → d ≤ n → between d (n + 1) (put ph n c) k ≡ sets (between d n ph) n (f c) k
  between_more d n ph c k le = elim (cases_eq k n) [
    | inl e ↦ (let b : (k == n) ≡ true = grind (arith, nat_tests) in between_in d (n + 1) (put ph n c) k (omega (arith, e, le)) (omega (arith, e)) ∙ ap (λ (j : ℕ). f (put ph n c j)) e ∙ ap f (put_here ph n c) ∙ (rw b refl))
    | inr ne ↦ (let b : (k == n) ≡ false = grind (arith, nat_tests) in elim (cases_lt k d) [
      | inl lt ↦ between_out d (n + 1) (put ph n c) k (inl lt) ∙ sym (between_out d n ph k (inl lt)) ∙ (rw b refl)
      | inr dk ↦ elim (cases_lt k n) [
        | inl kn ↦ between_in d (n + 1) (put ph n c) k dk (omega (arith, kn)) ∙ ap f (put_else ph n c k ne) ∙ sym (between_in d n ph k dk kn) ∙ (rw b refl)
        | inr nk ↦ between_out d (n + 1) (put ph n c) k (inr (omega (arith, nk, ne))) ∙ sym (between_out d n ph k (inr nk)) ∙ (rw b refl)
      ]
    ])
  ]

  -- one number moves
  pub between_put : (d n : ℕ) (ph : ℕ → Phase V) (j : ℕ) (c : Phase V) (k : ℕ) → d ≤ j → j < n → between d n (put ph j c) k ≡ sets (between d n ph) j (f c) k
  between_put d n ph j c k dj jn = elim (cases_eq k j) [
    | inl e ↦ (let b : (k == j) ≡ true = grind (arith, nat_tests) in between_in d n (put ph j c) k (omega (arith, e, dj)) (omega (arith, e, jn)) ∙ ap (λ (i : ℕ). f (put ph j c i)) e ∙ ap f (put_here ph j c) ∙ (rw b refl))
    | inr ne ↦ (let b : (k == j) ≡ false = grind (arith, nat_tests) in ap (λ (x : Phase V). cond (nat_le d k && nat_lt k n) (f x) None) (put_else ph j c k ne) ∙ (rw b refl))
  ]

  -- the head leaves, where what it shows is nothing
  pub between_less : (d n w : ℕ) (ph : ℕ → Phase V) (c : Phase V) (k : ℕ) → n ≤ w → between (d + 1) n (put ph w c) k ≡ sets (between d n ph) d None k
  between_less d n w ph c k nw = elim (cases_eq k d) [
    | inl e ↦ (let b : (k == d) ≡ true = grind (arith, nat_tests) in between_out (d + 1) n (put ph w c) k (inl (omega (arith, e))) ∙ (rw b refl))
    | inr ne ↦ (let b : (k == d) ≡ false = grind (arith, nat_tests) in elim (cases_lt k d) [
      | inl lt ↦ between_out (d + 1) n (put ph w c) k (inl (omega (arith, lt))) ∙ sym (between_out d n ph k (inl lt)) ∙ (rw b refl)
      | inr dk ↦ elim (cases_lt k n) [
        | inl kn ↦ between_in (d + 1) n (put ph w c) k (omega (arith, dk, ne)) kn ∙ ap f (put_else ph w c k (λ e. omega (arith, e, kn, nw))) ∙ sym (between_in d n ph k dk kn) ∙ (rw b refl)
        | inr nk ↦ between_out (d + 1) n (put ph w c) k (inr nk) ∙ sym (between_out d n ph k (inr nk)) ∙ (rw b refl)
      ]
    ])
  ]

mapped_sets : {X Y : Type 0} (g : X → Y) (m : ℕ → Option X) (n : ℕ) (x : Option X) (k : ℕ) → option_map g (sets m n x k) ≡ sets (λ j. option_map g (m j)) n (option_map g x) k
mapped_sets g m n x k = elim (cases_eq k n) [
  | inl e ↦ (let b : (k == n) ≡ true = grind (arith, nat_tests) in rw b refl)
  | inr ne ↦ (let b : (k == n) ≡ false = grind (arith, nat_tests) in rw b refl)
]

-- a map set to what it has
sets_none : {X : Type 0} (m : ℕ → Option X) (n : ℕ) (k : ℕ) → m n ≡ None → sets m n None k ≡ m k
sets_none m n k is = elim (cases_eq k n) [
  | inl e ↦ (let b : (k == n) ≡ true = grind (arith, nat_tests) in rw b (sym is ∙ ap m (sym e)))
  | inr ne ↦ (let b : (k == n) ≡ false = grind (arith, nat_tests) in rw b refl)
]

module _ {V : Type 0} (p : Setup) where
  -- a claim
  pub claim_event : (d n seen id w : ℕ) (ph : ℕ → Phase V) (tape : List (Taped (Named V))) → p.first ≤ seen → seen ≤ d → d ≤ n → n < end_of p → Within p seen n
      → let t : Taken = record { number = n; worker = w; seen = seen; kind = 0 } in
      (but_seen (shown p d (n + 1) (put ph n (held id t)) tape) ≡ but_seen (does (shown p d n ph tape) (Claim w)).0) × ((does (shown p d n ph tape) (Claim w)).1 ≡ Claimed n d)
  claim_event d n seen id w ph tape low sd dn below within =
      let s : Store (Named V) = shown p d n ph tape in let t : Taken = record { number = n; worker = w; seen = seen; kind = 0 } in let c' : Phase V = held id t in
      let near = within.1 in
      let room : is_full s ≡ false = elim within.2 [
        | inl e ↦ (let a : (n - d == p.window) ≡ false = grind (arith, nat_tests) in let b : nat_lt d n ≡ false = grind (arith, nat_tests) in rw (a, b) refl)
        | inr fits ↦ (let shorter = load_shorter p seen d (n + 1) low sd (omega (arith, dn)) in let a : (n - d == p.window) ≡ false = grind (arith, nat_tests) in let c : nat_lt p.most (load p d (n + 1)) ≡ false = grind (arith, nat_tests) in ap (λ (x : Bool). x || (nat_lt d n && nat_lt p.most (load p d (n + 1)))) a ∙ ap (λ (x : Bool). nat_lt d n && x) c ∙ none_and (nat_lt d n))
      ] in
      let is = does_claim s w (λ e. omega (arith, e, below)) room in (
        same_store p d (n + 1) _ _ _ _ (map unseen_taped tape)
            (λ k. ap (option_map unseen) (between_more held_in d n ph c' k dn) ∙ mapped_sets unseen s.held n (Some (record { worker = w; seen = seen })) k ∙ sym (mapped_sets unseen s.held n (Some (record { worker = w; seen = d })) k))
            (λ k. ap (option_map unseen_done) (between_more parked_in d n ph c' k dn ∙ sets_none s.parked n k (between_out parked_in d n ph n (inr (omega arith)))))
            ∙ sym (ap (λ x. but_seen x.0) is),
        ap (λ x. x.1) is,
      )
    where
      none_and : (b : Bool) → (b && false) ≡ false
      none_and true = refl
      none_and false = refl

  -- a commit
  pub commit_event : (d n j : ℕ) (ph : ℕ → Phase V) (tape : List (Taped (Named V))) (t : Taken) (e : Taped (Named V)) → d ≤ t.number → t.number < n → ph t.number ≡ held j t → e.worker ≡ t.worker → e.seen ≡ t.seen
      → (shown p d n (put ph t.number (parked e)) tape ≡ (does (shown p d n ph tape) (Commit t.worker t.number e.named)).0) × ((does (shown p d n ph tape) (Commit t.worker t.number e.named)).1 ≡ Committed)
  commit_event d n j ph tape t e dk kn is worker seen =
      let s : Store (Named V) = shown p d n ph tape in let k : ℕ = t.number in let by : Claimant = record { worker = t.worker; seen = t.seen } in
      let at : s.held k ≡ Some by = between_in held_in d n ph k dk kn ∙ ap held_in is in
      let does_it = does_commit s t.worker k e.named by at refl in
      let done : ◌≡◌ {A = Option (Done (Named V))} (Some (record { by = record { worker = e.worker; seen = e.seen }; value = e.named })) (Some (record { by = by; value = e.named })) = (λ i. Some (record { by = record { worker = worker i; seen = seen i }; value = e.named })) in
      (same_store p d n _ _ _ _ tape (λ i. between_put held_in d n ph k (parked e) i dk kn) (λ i. between_put parked_in d n ph k (parked e) i dk kn ∙ ap (λ (x : Option (Done (Named V))). sets s.parked k x i) done) ∙ sym (ap (λ x. x.0) does_it), ap (λ x. x.1) does_it)

  -- the end of a drain
  pub drain_event : (d n j w : ℕ) (ph : ℕ → Phase V) (tape : List (Taped (Named V))) (e : Taped (Named V)) → d < n → n ≤ w → ph d ≡ leaving j e → e.number ≡ d
      → (shown p (d + 1) n (put ph w free) (tape ++ e ∷ []) ≡ (does (shown p d n ph tape) Drain).0) × ((does (shown p d n ph tape) Drain).1 ≡ Drained d)
  drain_event d n j w ph tape e dn nw is number =
      let s : Store (Named V) = shown p d n ph tape in let x : Done (Named V) = record { by = record { worker = e.worker; seen = e.seen }; value = e.named } in
      let at : s.parked d ≡ Some x = between_in parked_in d n ph d (omega arith) dn ∙ ap parked_in is in
      let does_it = does_drain s x at in
      let held_none : s.held d ≡ None = between_in held_in d n ph d (omega arith) dn ∙ ap held_in is in (
        same_store p (d + 1) n _ _ _ _ (tape ++ e ∷ []) (λ k. between_less held_in d n w ph free k nw ∙ sets_none s.held d k held_none) (λ k. between_less parked_in d n w ph free k nw)
            ∙ ap (λ (k : ℕ). ended (tape ++ record { number = k; worker = e.worker; seen = e.seen; named = e.named } ∷ [])) number
            ∙ sym (ap (λ y. y.0) does_it),
        ap (λ y. y.1) does_it,
      )
    where
      ended : List (Taped (Named V)) → Store (Named V)
      ended list = record { setup = p; next = n; drained = d + 1; held = (shown p d n ph tape).held; parked = sets (shown p d n ph tape).parked d None; tape = list }
