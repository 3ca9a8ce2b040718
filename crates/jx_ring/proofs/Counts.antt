-- Sums over lists and over stretches of numbers in which one term changes.
use Rattle.std.proofs.Common.{◌≡◌, ◌≢◌, ℕ, zero, suc, ◌+◌, ◌-◌, ◌<◌, ◌≤◌, cond, List, [], ◌∷◌, set, refl, sym, ap, inl, inr, arith, eq-eqb, ne_eqb}
use Rattle.std.specs.List.{sum_by}
use mathlib.Core.Option.{some, some-injective, some-ne-none}
use lib.ListN.{get_elem?}
use Rattle.std.proofs.lemmas.Bool.{cases_eq}
use Rattle.std.proofs.lemmas.List.Sums.{sum_by-cons}
use Rattle.jx_ring.specs.Claims.{stretch, put}

module _ {X : Type 0} where
  pub put_here : (m : ℕ → X) (k : ℕ) (x : X) → put m k x k ≡ x
  put_here m k x = ap (λ b. cond b x (m k)) (eq-eqb k k refl)

  pub put_else : (m : ℕ → X) (k : ℕ) (x : X) (j : ℕ) → j ≢ k → put m k x j ≡ m j
  put_else m k x j ne = ap (λ b. cond b x (m j)) (ne_eqb j k ne)

module _ {A : Type 0} (f : A → ℕ) where
  -- one item of a list changes
  pub sum_set : (l : List A) (i : ℕ) (a b : A) → get_elem? l i ≡ some a → sum_by f (set l i b) + f a ≡ sum_by f l + f b
  sum_set [] i a b e = absurd (some-ne-none a (sym e))
  sum_set (x ∷ xs) zero a b e = (let x_is = ap f (some-injective x a e) in let c = sum_by-cons f x xs in let c' = sum_by-cons f b xs in omega (arith, x_is, c, c'))
  sum_set (x ∷ xs) (suc i) a b e = (let below = sum_set xs i a b e in let c = sum_by-cons f x xs in let c' = sum_by-cons f x (set xs i b) in omega (arith, below, c, c'))

  pub sum_same : (l : List A) (i : ℕ) (a b : A) → get_elem? l i ≡ some a → f b ≡ f a → sum_by f (set l i b) ≡ sum_by f l
  sum_same l i a b e same = (let s = sum_set l i a b e in omega (arith, s, same))

  -- each item counts
  pub sum_part : (l : List A) (i : ℕ) (a : A) → get_elem? l i ≡ some a → f a ≤ sum_by f l
  sum_part [] i a e = absurd (some-ne-none a (sym e))
  sum_part (x ∷ xs) zero a e = (let x_is = ap f (some-injective x a e) in let c = sum_by-cons f x xs in omega (arith, x_is, c))
  sum_part (x ∷ xs) (suc i) a e = (let below = sum_part xs i a e in let c = sum_by-cons f x xs in omega (arith, below, c))

  -- where one item has the whole sum, each other has nothing
  pub sum_alone : (l : List A) (i j : ℕ) (a b : A) → get_elem? l i ≡ some a → get_elem? l j ≡ some b → j ≢ i → f a + f b ≤ sum_by f l
  sum_alone [] i j a b ei ej ne = absurd (some-ne-none a (sym ei))
  sum_alone (x ∷ xs) zero zero a b ei ej ne = absurd (ne refl)
  sum_alone (x ∷ xs) zero (suc j) a b ei ej ne = (let x_is = ap f (some-injective x a ei) in let p = sum_part xs j b ej in let c = sum_by-cons f x xs in omega (arith, x_is, p, c))
  sum_alone (x ∷ xs) (suc i) zero a b ei ej ne = (let x_is = ap f (some-injective x b ej) in let p = sum_part xs i a ei in let c = sum_by-cons f x xs in omega (arith, x_is, p, c))
  sum_alone (x ∷ xs) (suc i) (suc j) a b ei ej ne = (let below = sum_alone xs i j a b ei ej (λ e. ne (ap suc e)) in let c = sum_by-cons f x xs in omega (arith, below, c))

  pub sum_none : (l : List A) → ((j : ℕ) (b : A) → get_elem? l j ≡ some b → f b ≡ 0) → sum_by f l ≡ 0
  sum_none [] none = refl
  sum_none (x ∷ xs) none = (let z = none zero x refl in let below = sum_none xs (λ j b e. none (suc j) b e) in let c = sum_by-cons f x xs in omega (arith, z, below, c))

  -- where each other item has nothing, one has the whole sum
  pub sum_rest : (l : List A) (i : ℕ) (a : A) → get_elem? l i ≡ some a → ((j : ℕ) (b : A) → get_elem? l j ≡ some b → j ≢ i → f b ≡ 0) → sum_by f l ≡ f a
  sum_rest [] i a e none = absurd (some-ne-none a (sym e))
  sum_rest (x ∷ xs) zero a e none = (let x_is = ap f (some-injective x a e) in let z = sum_none xs (λ j b ej. none (suc j) b ej (λ h. omega arith)) in let c = sum_by-cons f x xs in omega (arith, x_is, z, c))
  sum_rest (x ∷ xs) (suc i) a e none = (let below = sum_rest xs i a e (λ j b ej ne. none (suc j) b ej (λ h. ne (omega arith))) in let z = none zero x refl (λ h. omega arith) in let c = sum_by-cons f x xs in omega (arith, below, z, c))

  -- where the sum is nothing, each item is nothing
  pub sum_zero : (l : List A) (j : ℕ) (b : A) → sum_by f l ≡ 0 → get_elem? l j ≡ some b → f b ≡ 0
  sum_zero l j b z e = (let p = sum_part l j b e in omega (arith, p, z))

pub stretch_same : (g h : ℕ → ℕ) (a n : ℕ) → ((k : ℕ) → a ≤ k → k < a + n → g k ≡ h k) → stretch g a n ≡ stretch h a n
stretch_same g h a zero same = refl
stretch_same g h a (suc n) same = (let below = stretch_same g h a n (λ k le lt. same k le (omega arith)) in let last = same (a + n) (omega arith) (omega arith) in omega (arith, below, last))

-- one term changes
pub stretch_put : (g h : ℕ → ℕ) (a n k : ℕ) → a ≤ k → k < a + n → ((q : ℕ) → a ≤ q → q < a + n → q ≢ k → g q ≡ h q) → stretch g a n + h k ≡ stretch h a n + g k
stretch_put g h a zero k le lt same = absurd (omega arith)
stretch_put g h a (suc n) k le lt same = elim (cases_eq k (a + n)) [
  | inl e ↦ (let below = stretch_same g h a n (λ q l u. same q l (omega arith) (λ is. omega arith)) in let gk = ap g e in let hk = ap h e in omega (arith, below, gk, hk))
  | inr ne ↦ (let below = stretch_put g h a n k le (omega arith) (λ q l u. same q l (omega arith)) in let last = same (a + n) (omega arith) (omega arith) (λ is. ne (sym is)) in omega (arith, below, last))
]

pub stretch_first : (g : ℕ → ℕ) (a n : ℕ) → stretch g a (suc n) ≡ g a + stretch g (suc a) n
stretch_first g a zero = (let e = ap g (let z : a + 0 ≡ a = omega arith in z) in omega (arith, e))
stretch_first g a (suc n) = (let below = stretch_first g a n in let e = ap g (let z : a + suc n ≡ suc a + n = omega arith in z) in omega (arith, below, e))

pub stretch_more : (g : ℕ → ℕ) (a b : ℕ) → a ≤ b → stretch g a (b + 1 - a) ≡ stretch g a (b - a) + g b
stretch_more g a b le =
    let e : b + 1 - a ≡ suc (b - a) = omega arith in
    let f = ap g (let z : a + (b - a) ≡ b = omega arith in z) in
    let s = ap (stretch g a) e in omega (arith, s, f)

pub stretch_less : (g : ℕ → ℕ) (a b : ℕ) → a < b → stretch g a (b - a) ≡ g a + stretch g (a + 1) (b - (a + 1))
stretch_less g a b lt =
    let e : b - a ≡ suc (b - (a + 1)) = omega arith in
    let s = ap (stretch g a) e in let f = stretch_first g a (b - (a + 1)) in
    let z = ap (λ (x : ℕ). stretch g x (b - (a + 1))) (let q : suc a ≡ a + 1 = omega arith in q) in
    omega (arith, s, f, z)
