-- What stands in a table that is closed with the one seat that stands for all workers.
use Rattle.std.proofs.Common.{◌≡◌, ◌≢◌, ℕ, zero, suc, ◌+◌, ◌-◌, ◌%◌, ◌<◌, ◌≤◌, ◌⊎◌, eqb, cond, List, [], ◌∷◌, map, length, All, refl, sym, ap, subst, ◌∙◌, inl, inr, arith, eq-eqb, ne_eqb}
use Rattle.std.specs.Prelude.{Option, None, option_to_list}
use Rattle.std.specs.Global.{Vec}
use Rattle.std.specs.List.{sum_by}
use Rattle.std.proofs.lemmas.Bool.{cases_eq, cases_lt}
use Rattle.std.proofs.lemmas.List.{nil_from_length}
use Rattle.std.proofs.lemmas.List.Sums.{sum_by-cons}
use mathlib.Core.Option.{some}
use lib.ListN.{get_elem?}
use Rattle.atomic_table.specs.Table.{State}
use Rattle.jx_store.specs.declared.event.Taped.{Taped}
use Rattle.jx_store.specs.declared.work.Named.{Named}
use Rattle.jx_store.specs.Setup.{Setup}
use Rattle.jx_store.specs.Order.{numbers}
use Rattle.jx_store.proofs.NumberLemmas.{length_numbers}
use Rattle.jx_ring.specs.declared.view.Taken.{Taken}
use Rattle.jx_ring.specs.declared.view.RingView.{RingView}
use Rattle.jx_ring.specs.declared.view.Place.{Place}
use Rattle.jx_ring.specs.declared.view.Place.TheVariants.{Empty, Full, Tape}
use Rattle.jx_ring.specs.Claims.{taken, claims_of, stretch}
use Rattle.jx_ring.specs.Rule.{Phase, free, held, parked, leaving, odd, home, claim_in, EntryOk, TapeOk, InPhase, AtHome, IsSpent, draining, Ring}
use Rattle.jx_ring.specs.Closing.{Shut}
use Rattle.jx_ring.proofs.Counts.{sum_rest, sum_alone, stretch_same}
use Rattle.jx_ring.proofs.Rolls.{claims_with}

-- 1 for a claim that isn't committed
abbrev open_claim : Taken → ℕ
open_claim t = cond (eqb t.kind 0) 1 0

pub sum_ones : {X : Type 0} (xs : List X) → sum_by (λ _. 1) xs ≡ length xs
sum_ones [] = refl
sum_ones (x ∷ xs) = (let c = sum_by-cons (λ (_ : _). 1) x xs in let below = sum_ones xs in omega (arith, c, below))

finished_none : (xs : List Taken) → All (λ t. 0 < t.kind) xs → sum_by open_claim xs ≡ 0
finished_none [] all = refl
finished_none (t ∷ ts) all =
    let below = finished_none ts (λ k d lt. all (suc k) d (omega (arith, lt))) in let c = sum_by-cons open_claim t ts in
    let pos = all 0 t (omega arith) in let z : open_claim t ≡ 0 = ap (λ b. cond b 1 0) (ne_eqb t.kind 0 (λ e. omega (arith, e, pos))) in omega (arith, below, c, z)

stretch_part : (g : ℕ → ℕ) (a n k : ℕ) → a ≤ k → k < a + n → g k ≤ stretch g a n
stretch_part g a zero k le lt = absurd (omega arith)
stretch_part g a (suc n) k le lt = elim (cases_lt k (a + n)) [
  | inl less ↦ (let below = stretch_part g a n k le less in omega (arith, below))
  | inr more ↦ (let e : g k ≡ g (a + n) = ap g (omega arith) in omega (arith, e))
]

abbrev entry_or : {V : Type 0} → Taped (Named V) → Phase V → Taped (Named V)
entry_or d free = d
entry_or d (held j t) = d
entry_or d (parked e) = e
entry_or d (leaving j e) = e

module _ {V : Type 0} (p : Setup) (workers : ℕ) (Ok : ℕ → Named V → Type 0) where
  alone : (s : State (Place V) RingView) (r : Ring p workers Ok s) (id : ℕ) (v : RingView) → get_elem? s.views id ≡ some v → length v.stands ≡ workers
      → (j : ℕ) (x : RingView) → get_elem? s.views j ≡ some x → j ≢ id → IsSpent x
  alone s r id v at all j x atx ne =
      let f : RingView → ℕ = λ (y : RingView). sum_by (λ (_ : ℕ). 1) y.stands in
      let whole = r.roster.stand (λ _. 1) in let l = length_numbers 0 workers in let o = sum_ones (numbers 0 workers) in
      let both = sum_alone f s.views id j v x at atx ne in let mine = sum_ones v.stands in let his = sum_ones x.stands in
      (r.roster.own j x atx).0 (nil_from_length x.stands (omega (arith, whole, l, o, both, mine, his, all)))

  odd_else : (d n k : ℕ) (c : Phase V) → k ≢ d → InPhase p Ok d n k c → odd c ≡ 0
  odd_else d n k free ne i = refl
  odd_else d n k (held j t) ne i = refl
  odd_else d n k (parked e) ne i = refl
  odd_else d n k (leaving j e) ne i = absurd (ne i.2)

  -- neither held nor on its way
  settled : (d n k : ℕ) (c : Phase V) → odd c ≡ 0 → (open_claim (claim_in c) ≡ 0) ⊎ (n ≤ k) → InPhase p Ok d n k c → ((n ≤ k) × (c ≡ free)) ⊎ ((k < n) × ((e : Taped (Named V)) × (c ≡ parked e) × EntryOk p Ok k e))
  settled d n k free o q i = inl (i, refl)
  settled d n k (held j t) o q i = absurd (elim q [
    | inl z ↦ (let kind = i.1.2 in let one_is : open_claim t ≡ 1 = ap (λ b. cond b 1 0) (eq-eqb t.kind 0 kind) in omega (arith, z, one_is))
    | inr le ↦ (let lt = i.0 in omega (arith, le, lt))
  ])
  settled d n k (parked e) o q i = inr (i.0, (e, refl, i.1))
  settled d n k (leaving j e) o q i = absurd (omega (arith, o))

  -- what the table's last state says of its slots
  pub shuts : (s : State (Place V) RingView) (r : Ring p workers Ok s) (id : ℕ) (v : RingView) (xs : List (Place V)) → get_elem? s.views id ≡ some v → length v.stands ≡ workers → v.holds ≡ None → v.drains ≡ None
      → ((k : ℕ) (y : Place V) → get_elem? s.homes k ≡ some (some y) → get_elem? xs k ≡ some y) → (empty : Taped (Named V)) → (r.drained ≤ r.next) × Shut p Ok v.done v.next r.drained xs
  shuts s r id v xs at all no_hold no_drain same empty =
      let P = r.placed in let d : ℕ = r.drained in let n : ℕ = r.next in let ph : ℕ → Phase V = r.phase in let W : ℕ = p.window in
      let mid = P.mid in let near = P.near in let known = P.seats id v at in
      let spent = alone s r id v at all in
      let odd0 : odd (ph d) ≡ 0 =
      (let total = r.roster.drainers in let rest_none = sum_rest (λ (x : RingView). draining x.drains) s.views id v at (λ j x atx ne. ap draining (spent j x atx ne).2) in let mine = ap draining no_drain in omega (arith, total, rest_none, mine)) in
      let lists : (F : Taken → ℕ) → sum_by F v.done ≡ sum_by F (map taken r.tape) + stretch (λ k. F (claim_in (ph k))) d (n - d) = λ F. (
      let total = r.listed F in
      let rest_none = sum_rest (λ (x : RingView). sum_by F (claims_of x)) s.views id v at (λ j x atx ne. let sp = spent j x atx ne in let c = claims_with F x.done x.holds in let a = ap (sum_by F) sp.0 in let b = ap (λ (h : Option Taken). sum_by F (option_to_list h)) sp.1 in omega (arith, c, a, b)) in
      let c = claims_with F v.done v.holds in let b = ap (λ (h : Option Taken). sum_by F (option_to_list h)) no_hold in
      omega (arith, total, rest_none, c, b)) in
      let none_open : (k : ℕ) → d ≤ k → k < n → open_claim (claim_in (ph k)) ≡ 0 = λ k dk kn. (
      let l = lists open_claim in let f = finished_none v.done known.finished in let part = stretch_part (λ q. open_claim (claim_in (ph q))) d (n - d) k dk (omega (arith, kn, mid)) in
      omega (arith, l, f, part)) in
      let each : (k : ℕ) → d ≤ k → k < d + W → ((n ≤ k) × (ph k ≡ free)) ⊎ ((k < n) × ((e : Taped (Named V)) × (ph k ≡ parked e) × EntryOk p Ok k e)) = λ k dk kw. (
      let cell = P.cells k dk kw in
      let calm : odd (ph k) ≡ 0 = elim (cases_eq k d) [ inl e ↦ ap (λ (z : ℕ). odd (ph z)) e ∙ odd0 | inr ne ↦ odd_else d n k (ph k) ne cell.phase ] in
      let closed : (open_claim (claim_in (ph k)) ≡ 0) ⊎ (n ≤ k) = elim (cases_lt k n) [ inl kn ↦ inl (none_open k dk kn) | inr nk ↦ inr nk ] in
      settled d n k (ph k) calm closed cell.phase) in
      let home_is = subst (λ (z : ℕ). AtHome p z r.tape P.kept.0) odd0 P.kept.2 in let t : Vec (Taped (Named V)) = home_is.0 in
      let entry : ℕ → Taped (Named V) = λ k. entry_or empty (ph k) in
      let below : (k : ℕ) → d ≤ k → k < n → (ph k ≡ parked (entry k)) × EntryOk p Ok k (entry k) = λ k dk kn. elim (each k dk (omega (arith, kn, near))) [
        | inl z ↦ (let nk = z.0 in absurd (omega (arith, nk, kn)))
        | inr z ↦ (let e : Taped (Named V) = z.1.0 in let is : entry k ≡ e = ap (entry_or empty) z.1.1 in (z.1.1 ∙ ap parked (sym is), subst (EntryOk p Ok k) (sym is) z.1.2))
      ] in (
        mid,
        record {
          next = n;
          entry = entry;
          tape = t;
          mid = mid;
          near = near;
          high = P.high;
          long = ap (λ (l : List (Taped (Named V))). length l + p.first) home_is.2 ∙ P.long;
          taped = subst (TapeOk p Ok) (sym home_is.2) P.taped;
          room = home_is.3;
          kept = same W (Tape t) (P.kept.1 ∙ ap some home_is.1);
          parked = λ k dk kn. (let b = below k dk kn in (same (k % W) (Full (entry k)) ((P.cells k dk (omega (arith, kn, near))).lies ∙ ap (λ (c : Phase V). some (home c)) b.0), b.1));
          empty = λ k nk kw. elim (each k (omega (arith, nk, mid)) kw) [
            | inl z ↦ same (k % W) Empty ((P.cells k (omega (arith, nk, mid)) kw).lies ∙ ap (λ (c : Phase V). some (home c)) z.1)
            | inr z ↦ (let kn = z.0 in absurd (omega (arith, kn, nk)))
          ];
          same = λ F. (
              let l = lists F in let tape = ap (λ (items : List (Taped (Named V))). sum_by F (map taken items)) home_is.2 in
              let terms = stretch_same (λ k. F (claim_in (ph k))) (λ k. F (taken (entry k))) d (n - d) (λ k dk kn. ap (λ (c : Phase V). F (claim_in c)) (below k dk (omega (arith, kn, mid))).0) in
              omega (arith, l, tape, terms));
          saw = known.next;
        },
      )
