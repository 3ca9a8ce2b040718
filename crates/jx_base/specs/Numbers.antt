-- Quotients rounded up (ITU-T T.800, Annex B: "the smallest integer not less than").
use Rattle.std.specs.Prelude.{ℕ, ◌+◌, ◌*◌, ◌/◌, ◌%◌, ◌≤◌, min}

-- n is the least number with n * b ≥ a
pub record IsCeiling (a b n : ℕ) : Type 0 where
  pub reaches : a ≤ n * b
  pub least : (m : ℕ) → a ≤ m * b → n ≤ m

-- that number, where b isn't 0: the quotient, and one more where something is left
unfoldable pub ceil_of : ℕ → ℕ → ℕ
ceil_of a b = a / b + min 1 (a % b)
