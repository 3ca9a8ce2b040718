-- The sums of what all passes counted, one pass after the other.
use Rattle.std.proofs.Common.{◌≡◌, ℕ, ◌+◌, List, [], ◌∷◌, ◌++◌, length, refl, ap, ◌∙◌, arith}
use Rattle.std.specs.Prelude.{sum_by}
use Rattle.std.proofs.lemmas.List.Sums.{sum_by_push}

module _ {X : Type 0} (f : X → ℕ) where
  popped : (xs ys : List X) (x : X) → xs ≡ ys ++ x ∷ [] → sum_by f xs ≡ sum_by f ys + f x
  popped xs ys x e = ap (λ (l : List X). sum_by f l) e ∙ sum_by_push f ys x

  none : (xs : List X) → length xs ≡ 0 → sum_by f xs ≡ 0
  none [] e = refl
  none (x ∷ xs) e = absurd (omega arith)

  -- the first pass
  pub first_share : (xs ys : List X) (x : X) (parts amount m n : ℕ) → xs ≡ ys ++ x ∷ [] → m + 1 ≡ n → parts ≡ 1 → amount ≡ f x
      → (parts + m ≡ n) × (amount + sum_by f ys ≡ sum_by f xs)
  first_share xs ys x parts amount m n e l p a = let s = popped xs ys x e in (omega arith, omega arith)

  -- one more
  pub share_more : (xs ys : List X) (x : X) (parts amount one_parts one_amount new_parts new_amount m k n w : ℕ) → xs ≡ ys ++ x ∷ [] → m + 1 ≡ k
      → (parts + k ≡ n) × (amount + sum_by f xs ≡ w) → one_parts ≡ 1 → one_amount ≡ f x → new_parts ≡ parts + one_parts → new_amount ≡ amount + one_amount
      → (new_parts + m ≡ n) × (new_amount + sum_by f ys ≡ w)
  share_more xs ys x parts amount one_parts one_amount new_parts new_amount m k n w e l i p a q b =
      let s = popped xs ys x e in let i0 = i.0 in let i1 = i.1 in (omega arith, omega arith)

  -- all
  pub shares_all : (xs : List X) (parts amount k n w : ℕ) → length xs ≡ 0 → k ≡ 0 → (parts + k ≡ n) × (amount + sum_by f xs ≡ w) → (parts ≡ n) × (amount ≡ w)
  shares_all xs parts amount k n w e z i = let s = none xs e in let i0 = i.0 in let i1 = i.1 in (omega arith, omega arith)
