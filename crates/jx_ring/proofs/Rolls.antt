-- What stays of the lists of claims and of worker numbers when one view changes.
use Rattle.std.proofs.Common.{◌≡◌, ◌≢◌, ℕ, ◌+◌, ◌<◌, ◌≤◌, ◌⊎◌, List, [], ◌∷◌, ◌++◌, set, sym, ap, subst, ◌∙◌, inl, inr, ⊎_elim, arith}
use Rattle.std.specs.Prelude.{Option, Contains, option_to_list}
use Rattle.std.specs.List.{sum_by}
use Rattle.std.proofs.lemmas.Bool.{cases_eq}
use Rattle.std.proofs.lemmas.List.Sums.{sum_by-cons, sum_by-append}
use mathlib.Core.Option.{some}
use lib.ListN.{get_elem?}
use Rattle.atomic_table.proofs.Lists.{at_set}
use Rattle.jx_ring.specs.declared.view.Taken.{Taken}
use Rattle.jx_ring.specs.declared.view.RingView.{RingView}
use Rattle.jx_ring.specs.Claims.{stretch, put}
use Rattle.jx_ring.specs.Rule.{Phase, odd, claim_in, IsSpent, draining, Roster}
use Rattle.jx_ring.proofs.Counts.{sum_set, sum_same, put_here, put_else, stretch_put, stretch_same}

pub roster_set : (workers o o' : ℕ) (vs : List RingView) (me : ℕ) (v w : RingView) → Roster workers o vs → get_elem? vs me ≡ some v → w.stands ≡ v.stands → w.worker ≡ v.worker
    → (w.stands ≡ [] → IsSpent w) → draining w.drains + o ≡ draining v.drains + o' → Roster workers o' (set vs me w)
roster_set workers o o' vs me v w r at same own spent count = record {
  stand = λ F. sum_same (λ (x : RingView). sum_by F x.stands) vs me v w at (ap (sum_by F) same) ∙ r.stand F;
  own = λ j x e. ⊎_elim
      (λ (t : (j ≡ me) × (w ≡ x)). subst (λ (y : RingView). (y.stands ≡ [] → IsSpent y) × ((y.stands ≡ []) ⊎ Contains y.stands y.worker)) t.1
      (spent, elim ((r.own me v at).1) [ inl none ↦ inl (same ∙ none) | inr is ↦ inr (subst (λ (l : List ℕ). Contains l w.worker) (sym same) (subst (λ (k : ℕ). Contains v.stands k) (sym own) is)) ]))
      (λ (t : (j ≢ me) × (get_elem? vs j ≡ some x)). r.own j x t.1)
      (at_set vs me j w x e);
  drainers = (let s = sum_set (λ (x : RingView). draining x.drains) vs me v w at in let was = r.drainers in omega (arith, s, was, count));
}

pub claims_with : (F : Taken → ℕ) (l : List Taken) (h : Option Taken) → sum_by F (l ++ option_to_list h) ≡ sum_by F l + sum_by F (option_to_list h)
claims_with F l h = sum_by-append F l (option_to_list h)

pub one : (F : Taken → ℕ) (t : Taken) → sum_by F (t ∷ []) ≡ F t
one F t = (let c = sum_by-cons F t [] in omega (arith, c))

module _ {V : Type 0} where
  pub odd_put : (ph : ℕ → Phase V) (k : ℕ) (c : Phase V) (d : ℕ) → odd c ≡ odd (ph k) → odd (put ph k c d) ≡ odd (ph d)
  odd_put ph k c d same = elim (cases_eq d k) [
    | inl e ↦ ap (λ (z : ℕ). odd (put ph k c z)) e ∙ ap odd (put_here ph k c) ∙ same ∙ sym (ap (λ (z : ℕ). odd (ph z)) e)
    | inr ne ↦ ap odd (put_else ph k c d ne)
  ]

  -- the terms of a stretch, where one number moves
  pub terms_put : (F : Taken → ℕ) (ph : ℕ → Phase V) (k : ℕ) (c : Phase V) (a n : ℕ) → a ≤ k → k < a + n
      → stretch (λ q. F (claim_in (put ph k c q))) a n + F (claim_in (ph k)) ≡ stretch (λ q. F (claim_in (ph q))) a n + F (claim_in c)
  terms_put F ph k c a n le lt =
      let s = stretch_put (λ q. F (claim_in (ph q))) (λ q. F (claim_in (put ph k c q))) a n k le lt (λ q l u ne. ap (λ (x : Phase V). F (claim_in x)) (sym (put_else ph k c q ne))) in
      let h = ap (λ (x : Phase V). F (claim_in x)) (put_here ph k c) in
      omega (arith, s, h)

  pub terms_else : (F : Taken → ℕ) (ph : ℕ → Phase V) (k : ℕ) (c : Phase V) (a n : ℕ) → ((k < a) ⊎ (a + n ≤ k))
      → stretch (λ q. F (claim_in (put ph k c q))) a n ≡ stretch (λ q. F (claim_in (ph q))) a n
  terms_else F ph k c a n out =
      stretch_same (λ q. F (claim_in (put ph k c q))) (λ q. F (claim_in (ph q))) a n (λ q l u. ap (λ (x : Phase V). F (claim_in x)) (put_else ph k c q (λ e. elim out [ inl lt ↦ omega arith | inr le ↦ omega arith ])))
