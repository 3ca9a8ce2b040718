-- Lists and sums of what stands under the numbers from one on below another.
use Rattle.std.specs.Prelude.{ℕ, zero, suc, ◌+◌, ◌-◌, ◌<◌, ◌≤◌, List, [], ◌++◌}
use Rattle.std.specs.List.{Contains}

-- f a, f (a + 1), .. up to and not including f b, joined
abbrev pub joined_below : {X : Type 0} → (ℕ → List X) → ℕ → ℕ → List X
joined_below f a zero = []
joined_below f a (suc n) = joined_below f a n ++ f (a + n)

unfoldable pub joined : {X : Type 0} → (ℕ → List X) → ℕ → ℕ → List X
joined f a b = joined_below f a (b - a)

-- x is in the list of a number from a on below b
pub record JoinedAt {X : Type 0} (f : ℕ → List X) (a b : ℕ) (x : X) : Type 0 where
  pub number : ℕ
  pub from : a ≤ number
  pub below : number < b
  pub has : Contains (f number) x

-- f 0 + f 1 + .. up to and not including f n
abbrev pub sum_below : (ℕ → ℕ) → ℕ → ℕ
sum_below f zero = 0
sum_below f (suc n) = sum_below f n + f n
