-- A number that is found in a range.
use Rattle.std.proofs.Common.{◌≡◌, ◌<◌, ◌≤◌, ◌+◌, arith, ℕ, zero, suc, Bool, true, None, inl, inr, find, refl}
use Rattle.std.specs.List.{range_with_len}
use Rattle.std.proofs.lemmas.Bool.{cases_Bool}

pub find_none : (f : ℕ → Bool) (a k : ℕ) → ((m : ℕ) → a ≤ m → m < a + k → f m ≡ true → ⊥) → find f (range_with_len a k) ≡ None
find_none f a zero never = refl
find_none f a (suc k) never = elim (cases_Bool (f a)) [
  | inl t ↦ absurd (never a (omega arith) (omega arith) t)
  | inr t ↦ rw t (find_none f (a + 1) k (λ m from below test. never m (omega arith) (omega arith) test))
]
