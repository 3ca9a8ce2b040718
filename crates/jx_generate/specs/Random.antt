-- The generator's random numbers: a state of 64 bits, which each number moves on and is taken from.
use Rattle.std.specs.Prelude.{ℕ, zero, suc, ◌+◌, ◌*◌, ◌/◌, ◌%◌, ◌^◌, List, [], ◌∷◌}

-- the state after the next number
unfoldable pub state_after : ℕ → ℕ
state_after x = (x * 6364136223846793005 + 1442695040888963407) % 2 ^ 64

-- the next number, of 31 bits
unfoldable pub number_at : ℕ → ℕ
number_at x = state_after x / 2 ^ 33

-- the next n numbers, and the state after them
abbrev pub numbers_at : ℕ → ℕ → List ℕ
numbers_at x zero = []
numbers_at x (suc n) = number_at x ∷ numbers_at (state_after x) n

abbrev pub state_past : ℕ → ℕ → ℕ
state_past x zero = x
state_past x (suc n) = state_past (state_after x) n
