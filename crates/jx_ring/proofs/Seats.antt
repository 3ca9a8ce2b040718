-- The first view, the split of a seat and the join of two keep the rule.
use Rattle.std.proofs.Common.{◌≡◌, ◌≢◌, ℕ, zero, suc, ◌+◌, ◌-◌, ◌*◌, ◌%◌, ◌<◌, ◌≤◌, ◌⊎◌, List, [], ◌∷◌, ◌++◌, length, get_or, take, drop, set, refl, sym, ap, subst, ◌∙◌, inl, inr, ⊎_elim, arith}
use Rattle.std.specs.Prelude.{Option, None, Contains, option_to_list, vec_capacity}
use Rattle.std.specs.Global.{Vec}
use Rattle.std.specs.List.{sum_by}
use Rattle.std.proofs.lemmas.Bool.Decides.{nat_tests}
use Rattle.std.proofs.lemmas.Nat.{mod_below}
use Rattle.std.proofs.lemmas.Option.{none-some}
use Rattle.std.proofs.lemmas.List.{length-map}
use Rattle.std.proofs.lemmas.List.Sums.{sum_by-cons, sum_by-append, sum_by_push}
use Rattle.std.proofs.lemmas.List.Elements.{All-append, All-nil, Contains-append_left}
use mathlib.Core.Option.{some, some-injective, some-ne-none}
use lib.ListN.{get_elem?}
use Rattle.atomic_table.specs.Table.{Splits, Joins, opening}
use Rattle.atomic_table.proofs.Lists.{at_set, at_snoc, at_map}
use Rattle.jx_store.specs.declared.event.Taped.{Taped}
use Rattle.jx_store.specs.declared.work.Named.{Named}
use Rattle.jx_store.specs.Setup.{Setup}
use Rattle.jx_store.specs.Order.{numbers}
use Rattle.jx_ring.specs.declared.view.Taken.{Taken}
use Rattle.jx_ring.specs.declared.view.RingView.{RingView}
use Rattle.jx_ring.specs.declared.view.Place.{Place}
use Rattle.jx_ring.specs.declared.view.Place.TheVariants.{Empty, Tape}
use Rattle.jx_ring.specs.Claims.{claims_of, stretch}
use Rattle.jx_ring.specs.Rule.{Phase, free, before, claim_in, Knows, IsSpent, draining, Ring, counting_down, first_view, deals, dealt, joined, spent_view}
use Rattle.jx_ring.specs.Passes.{Blank, Row}
use Rattle.jx_ring.proofs.Counts.{sum_set, sum_same}
use Rattle.jx_ring.proofs.Cells.{looked}
use Rattle.jx_ring.proofs.Rolls.{claims_with}
use Rattle.jx_base.proofs.Lists.{contains_none}

pub counts_down : (F : ℕ → ℕ) (n : ℕ) → sum_by F (counting_down n) ≡ sum_by F (numbers 0 n)
counts_down F zero = refl
counts_down F (suc n) = (let below = counts_down F n in let c = sum_by-cons F n (counting_down n) in let q = sum_by_push F (numbers 0 n) (0 + n) in let z : F (0 + n) ≡ F n = ap F (omega arith) in omega (arith, below, c, q, z))

pub ends_at_zero : (n : ℕ) → 0 < n → Contains (counting_down n) 0
ends_at_zero zero pos = absurd (omega arith)
ends_at_zero (suc zero) pos = (0, omega arith, refl)
ends_at_zero (suc (suc n)) pos = (let below = ends_at_zero (suc n) (omega arith) in let lt = below.1 in (suc below.0, omega (arith, lt), below.2))

pub first_nil : {X : Type 0} (xs ys : List X) → xs ++ ys ≡ [] → xs ≡ []
first_nil [] ys e = refl
first_nil (x ∷ xs) ys e = absurd (let l = ap length e in omega (arith, l))

module _ {V : Type 0} (p : Setup) (workers : ℕ) (Ok : ℕ → Named V → Type 0) where
  -- the rule at the start
  pub starts : (ws : List ℕ) (xs : List (Place V)) (t : Vec (Taped (Named V))) → length ws ≡ p.window + 2 → get_or ws 0 0 ≡ p.first → get_or ws 1 0 ≡ 2 * p.first → ((j : ℕ) → j < p.window → get_or ws (j + 2) 0 ≡ 0)
      → length xs ≡ p.window + 1 → ((j : ℕ) → j < p.window → get_elem? xs j ≡ some Empty) → get_elem? xs p.window ≡ some (Tape t) → t.items ≡ [] → length p.sizes ≤ vec_capacity t → 0 < p.window → 0 < workers
      → Ring p workers Ok (opening ws xs (first_view p workers))
  starts ws xs t wide next drain zeros slots empty tape none_yet room pos some_worker =
      let v : RingView = first_view p workers in let f : ℕ = p.first in
      record {
        drained = f;
        next = f;
        phase = λ k. free;
        tape = [];
        placed = record {
          wide = wide;
          slots = length-map xs some ∙ slots;
          some_slot = pos;
          next_is = next;
          drain_is = omega (arith, drain);
          low = omega arith;
          mid = omega arith;
          high = omega arith;
          near = omega arith;
          light = inl (omega arith);
          cells = λ k low high. record {
            shows = zeros (k % p.window) (mod_below k p.window pos) ∙ (let z : 0 ≡ before p k = grind (arith, nat_tests) in z);
            lies = at_map some xs (k % p.window) Empty (empty (k % p.window) (mod_below k p.window pos));
            phase = low;
          };
          long = omega arith;
          taped = record { each = λ i e at. absurd (some-ne-none e (sym at)); room = omega arith };
          kept = (some (Tape t), at_map some xs p.window (Tape t) tape, (t, refl, none_yet, room));
          seats = λ j x at. go j x at;
        };
        listed = λ F. (
            let c = sum_by-cons (λ (x : RingView). sum_by F (claims_of x)) v [] in
            let z = ap (stretch (λ k. F (claim_in {V = V} free)) f) (let q : f - f ≡ 0 = omega arith in q) in omega (arith, c, z));
        roster = record {
          stand = λ F. (let c = sum_by-cons (λ (x : RingView). sum_by F x.stands) v [] in let d = counts_down F workers in omega (arith, c, d));
          own = λ j x at. own j x at;
          drainers = refl;
        };
      }
    where
      go : (j : ℕ) (x : RingView) → get_elem? (first_view p workers ∷ []) j ≡ some x → Knows {V = V} p.first p.first (λ k. free) [] j x
      go zero x at = subst (Knows {V = V} p.first p.first (λ k. free) [] zero) (some-injective (first_view p workers) x at) (record {
        drained = omega arith;
        next = omega arith;
        committed = λ k e. absurd (none-some k e);
        holds = λ k e. absurd (none-some k e);
        drains = λ k e. absurd (none-some k e);
        finished = All-nil (λ (t : Taken). 0 < t.kind);
      })
      go (suc j) x at = absurd (some-ne-none x (sym at))

      own : (j : ℕ) (x : RingView) → get_elem? (first_view p workers ∷ []) j ≡ some x → (x.stands ≡ [] → IsSpent x) × ((x.stands ≡ []) ⊎ Contains x.stands x.worker)
      own zero x at = subst (λ (y : RingView). (y.stands ≡ [] → IsSpent y) × ((y.stands ≡ []) ⊎ Contains y.stands y.worker)) (some-injective (first_view p workers) x at) ((λ _. (refl, refl, refl)), inr (ends_at_zero workers some_worker))
      own (suc j) x at = absurd (some-ne-none x (sym at))

  pub opens : (ws : List ℕ) (xs : List (Place V)) → Blank p.first p.window ws → Row p.window (length p.sizes) xs → 0 < p.window → 0 < workers → Ring p workers Ok (opening ws xs (first_view p workers))
  opens ws xs b r pos some_worker = starts ws xs r.tape.0 b.wide b.next b.drain b.zeros r.wide r.empty r.tape.1 r.tape.2 r.tape.3 pos some_worker

  -- a new seat with the first of the worker numbers, where that isn't the seat's own
  pub splits : (id k : ℕ) (v : RingView) (more : List ℕ) → v.stands ≡ k ∷ more → Contains more v.worker → Splits (Ring p workers Ok) id v (deals v) (dealt v)
  splits id k v more list own s r at =
      let P = r.placed in let d : ℕ = r.drained in let n : ℕ = r.next in let ph : ℕ → Phase V = r.phase in
      let left : RingView = deals v in let right : RingView = dealt v in let known = P.seats id v at in
      let rest_is : left.stands ≡ more = ap (drop 1) list in let one_is : right.stands ≡ k ∷ [] = ap (take 1) list in let me_is : right.worker ≡ k = ap (λ (l : List ℕ). get_or l 0 0) list in
      let mine : Knows d n ph r.tape id left = record { drained = known.drained; next = known.next; committed = known.committed; holds = known.holds; drains = known.drains; finished = known.finished } in
      let Q = looked p Ok d n id ph r.tape s.words s.homes s.views left P mine in
      let fresh : (j : ℕ) → Knows d n ph r.tape j right = λ j. record { drained = known.drained; next = known.next; committed = known.committed; holds = λ t e. absurd (none-some t e); drains = λ l e. absurd (none-some l e); finished = All-nil (λ (t : Taken). 0 < t.kind) } in
      record {
        drained = d;
        next = n;
        phase = ph;
        tape = r.tape;
        placed = record {
          wide = P.wide;
          slots = P.slots;
          some_slot = P.some_slot;
          next_is = P.next_is;
          drain_is = P.drain_is;
          low = P.low;
          mid = P.mid;
          high = P.high;
          near = P.near;
          light = P.light;
          cells = P.cells;
          long = P.long;
          taped = P.taped;
          kept = P.kept;
          seats = λ j x e. ⊎_elim (λ (y : get_elem? (set s.views id left) j ≡ some x). Q.seats j x y) (λ (y : right ≡ x). subst (Knows d n ph r.tape j) y (fresh j)) (at_snoc (set s.views id left) right x j e);
        };
        listed = λ F. (
            let q = sum_by_push (λ (x : RingView). sum_by F (claims_of x)) (set s.views id left) right in let same = sum_same (λ (x : RingView). sum_by F (claims_of x)) s.views id v left at refl in
            let was = r.listed F in omega (arith, q, same, was));
        roster = record {
          stand = λ F. (
              let q = sum_by_push (λ (x : RingView). sum_by F x.stands) (set s.views id left) right in let one = sum_set (λ (x : RingView). sum_by F x.stands) s.views id v left at in
              let was = r.roster.stand F in let a = ap (sum_by F) list in let b = ap (sum_by F) rest_is in let c = ap (sum_by F) one_is in
              let e = sum_by-cons F k more in let f = sum_by-cons F k [] in omega (arith, q, one, was, a, b, c, e, f));
          own = λ j x e. ⊎_elim
              (λ (y : get_elem? (set s.views id left) j ≡ some x). ⊎_elim
              (λ (z : (j ≡ id) × (left ≡ x)). subst (λ (u : RingView). (u.stands ≡ [] → IsSpent u) × ((u.stands ≡ []) ⊎ Contains u.stands u.worker)) z.1
              ((λ no. absurd (contains_none v.worker (subst (λ (l : List ℕ). Contains l v.worker) (sym rest_is ∙ no) own))), inr (subst (λ (l : List ℕ). Contains l v.worker) (sym rest_is) own)))
              (λ (z : (j ≢ id) × (get_elem? s.views j ≡ some x)). r.roster.own j x z.1)
              (at_set s.views id j left x y))
              (λ (y : right ≡ x). subst (λ (u : RingView). (u.stands ≡ [] → IsSpent u) × ((u.stands ≡ []) ⊎ Contains u.stands u.worker)) y
              ((λ no. absurd (let l = ap length (sym one_is ∙ no) in omega (arith, l))), inr (subst (λ (l : List ℕ). Contains l right.worker) (sym one_is) (0, omega arith, sym me_is))))
              (at_snoc (set s.views id left) right x j e);
          drainers = (let q = sum_by_push (λ (x : RingView). draining x.drains) (set s.views id left) right in let same = sum_same (λ (x : RingView). draining x.drains) s.views id v left at refl in let was = r.roster.drainers in omega (arith, q, same, was));
        };
      }

  -- a seat takes in another
  pub joins : (id other : ℕ) (v w : RingView) → ¬ (v.stands ≡ []) → v.holds ≡ None → w.holds ≡ None → v.drains ≡ None → w.drains ≡ None → Joins (Ring p workers Ok) id v other w (joined v w) spent_view
  joins id other v w live hv hw dv dw s r at apart at' =
      let P = r.placed in let d : ℕ = r.drained in let n : ℕ = r.next in let ph : ℕ → Phase V = r.phase in
      let both : RingView = joined v w in let vs : List RingView = set s.views id both in let end_views : List RingView = set vs other spent_view in
      let known = P.seats id v at in
      let was_there : get_elem? s.views other ≡ some w = ⊎_elim (λ (y : (other ≡ id) × (both ≡ w)). absurd (apart y.0)) (λ (y : (other ≢ id) × (get_elem? s.views other ≡ some w)). y.1) (at_set s.views id other both w at') in
      let known' = P.seats other w was_there in
      let mine : Knows d n ph r.tape id both = record {
        drained = (let a = known.drained in let b = known'.drained in grind (arith, nat_tests));
        next = (let a = known.next in let b = known'.next in grind (arith, nat_tests));
        committed = known.committed;
        holds = λ t e. absurd (none-some t e);
        drains = λ l e. absurd (none-some l e);
        finished = All-append (λ (t : Taken). 0 < t.kind) v.done w.done known.finished known'.finished;
      } in
      let gone : Knows d n ph r.tape other spent_view = record { drained = omega arith; next = omega arith; committed = λ t e. absurd (none-some t e); holds = λ t e. absurd (none-some t e); drains = λ l e. absurd (none-some l e); finished = All-nil (λ (t : Taken). 0 < t.kind) } in
      record {
        drained = d;
        next = n;
        phase = ph;
        tape = r.tape;
        placed = looked p Ok d n other ph r.tape s.words s.homes vs spent_view (looked p Ok d n id ph r.tape s.words s.homes s.views both P mine) gone;
        listed = λ F. (
            let a = sum_set (λ (x : RingView). sum_by F (claims_of x)) s.views id v both at in let b = sum_set (λ (x : RingView). sum_by F (claims_of x)) vs other w spent_view at' in let was = r.listed F in
            let cv = claims_with F v.done v.holds in let ev = ap (λ (h : Option Taken). sum_by F (option_to_list h)) hv in let cw = claims_with F w.done w.holds in let ew = ap (λ (h : Option Taken). sum_by F (option_to_list h)) hw in
            let cb = claims_with F (v.done ++ w.done) None in let e = sum_by-append F v.done w.done in
            omega (arith, a, b, was, cv, ev, cw, ew, cb, e));
        roster = record {
          stand = λ F. (
              let a = sum_set (λ (x : RingView). sum_by F x.stands) s.views id v both at in let b = sum_set (λ (x : RingView). sum_by F x.stands) vs other w spent_view at' in
              let was = r.roster.stand F in let e = sum_by-append F v.stands w.stands in omega (arith, a, b, was, e));
          own = λ j x e. ⊎_elim
              (λ (y : (j ≡ other) × (spent_view ≡ x)). subst (λ (u : RingView). (u.stands ≡ [] → IsSpent u) × ((u.stands ≡ []) ⊎ Contains u.stands u.worker)) y.1 ((λ _. (refl, refl, refl)), inl refl))
              (λ (y : (j ≢ other) × (get_elem? vs j ≡ some x)). ⊎_elim
              (λ (z : (j ≡ id) × (both ≡ x)). subst (λ (u : RingView). (u.stands ≡ [] → IsSpent u) × ((u.stands ≡ []) ⊎ Contains u.stands u.worker)) z.1
              ((λ no. absurd (live (first_nil v.stands w.stands no))), ⊎_elim (λ (no : v.stands ≡ []). absurd (live no)) (λ (has : Contains v.stands v.worker). inr (Contains-append_left v.stands w.stands v.worker has)) ((r.roster.own id v at).1)))
              (λ (z : (j ≢ id) × (get_elem? s.views j ≡ some x)). r.roster.own j x z.1)
              (at_set s.views id j both x y.1))
              (at_set vs other j spent_view x e);
          drainers = (
              let a = sum_set (λ (x : RingView). draining x.drains) s.views id v both at in let b = sum_set (λ (x : RingView). draining x.drains) vs other w spent_view at' in
              let was = r.roster.drainers in let ev = ap draining dv in let ew = ap draining dw in omega (arith, a, b, was, ev, ew));
        };
      }
