-- Sums of what stands under the numbers below another.
use Rattle.std.proofs.Common.{◌≡◌, ℕ, zero, suc, ◌+◌, ◌≤◌, ◌<◌, List, inl, inr, ◌∙◌, ap, sym, refl, add-one, arith, length, take, get_or, sum_by}
use Rattle.std.proofs.Math.Seq.{take-length}
use Rattle.std.proofs.lemmas.Bool.{cases_lt, cases_eq}
use Rattle.std.proofs.lemmas.List.Sums.{sum_by_more}
use Rattle.jx_base.specs.Joined.{sum_below}

pub sum_below_next : (f : ℕ → ℕ) (n : ℕ) → sum_below f (n + 1) ≡ sum_below f n + f n
sum_below_next f n = rw add-one

-- a sum up to a number is within one up to a larger number
pub sum_below_grows : (f : ℕ → ℕ) (m n : ℕ) → m ≤ n → sum_below f m ≤ sum_below f n
sum_below_grows f m zero le = let e : m ≡ 0 = omega arith in rw e (omega arith)
sum_below_grows f m (suc n) le = elim (cases_eq m (suc n)) [
  | inl same ↦ rw same (omega arith)
  | inr other ↦
      let less : m ≤ n = omega arith in
      let before : sum_below f m ≤ sum_below f n = sum_below_grows f m n less in
      omega arith
]

-- and one more term is within it
pub sum_below_more : (f : ℕ → ℕ) (m n : ℕ) → m < n → sum_below f m + f m ≤ sum_below f n
sum_below_more f m n lt =
    let next : sum_below f (m + 1) ≤ sum_below f n = sum_below_grows f (m + 1) n (omega arith) in
    omega (arith, sum_below_next f m)

-- a number is in one of the terms of a sum alone
pub sum_once : (f : ℕ → ℕ) (i j a b : ℕ) → a < f i → b < f j → sum_below f i + a ≡ sum_below f j + b → (i ≡ j) × (a ≡ b)
sum_once f i j a b ha hb e = elim (cases_lt i j) [
  | inl less ↦ absurd (omega (arith, sum_below_more f i j less))
  | inr ge ↦ elim (cases_lt j i) [
    | inl more ↦ absurd (omega (arith, sum_below_more f j i more))
    | inr le ↦
        let same : i ≡ j = omega arith in
        let sums : sum_below f i ≡ sum_below f j = ap (λ n. sum_below f n) same in
        (same, omega arith)
  ]
]

-- a sum over the front of a list, as a sum of its terms by place
pub front_sum : {X : Type 0} (f : X → ℕ) (xs : List X) (d : X) (n : ℕ) → n ≤ length xs
    → sum_by f (take n xs) ≡ sum_below (λ i. f (get_or xs i d)) n
front_sum f xs d zero le = refl
front_sum f xs d (suc n) le =
    let before : sum_by f (take n xs) ≡ sum_below (λ i. f (get_or xs i d)) n = front_sum f xs d n (omega arith) in
    let more : sum_by f (take (n + 1) xs) ≡ sum_by f (take n xs) + f (get_or xs n d) = sum_by_more f xs n d (omega arith) in
    let more' : sum_by f (take (suc n) xs) ≡ sum_by f (take n xs) + f (get_or xs n d) = rw add-one at more in
    omega arith

pub whole_sum : {X : Type 0} (f : X → ℕ) (xs : List X) (d : X) → sum_by f xs ≡ sum_below (λ i. f (get_or xs i d)) (length xs)
whole_sum f xs d = ap (λ ys. sum_by f ys) (sym (take-length xs)) ∙ front_sum f xs d (length xs) (omega arith)
