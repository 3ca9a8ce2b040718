-- What a store is made with.
use Rattle.std.specs.Prelude.{◌≡◌, ℕ, ◌+◌, ◌-◌, ◌<◌, ◌≤◌, nat_lt, Bool, ◌⊎◌, List, length, take, drop}
use Rattle.std.specs.List.{sum}

-- the first number, the size of each number from it on, and the two windows: `window` numbers, and
-- `most` for the sizes
pub record Setup : Type 0 where
  pub first : ℕ
  pub sizes : List ℕ
  pub window : ℕ
  pub most : ℕ

-- the sum of the sizes of the numbers a to b - 1
abbrev pub load : Setup → ℕ → ℕ → ℕ
load p a b = sum (take (b - a) (drop (a - p.first) p.sizes))

-- the first number after all
abbrev pub end_of : Setup → ℕ
end_of p = p.first + length p.sizes

-- whether the sizes of the numbers drained to next pass `most`
abbrev pub is_over : Setup → ℕ → ℕ → Bool
is_over p drained next = nat_lt p.most (load p drained (next + 1))

-- a number that was claimed when `seen` was the first that was not drained: it is inside both
-- windows, but for the sizes where it stands alone
abbrev pub Within : Setup → ℕ → ℕ → Type 0
Within p seen number = (seen ≤ number) × (number < seen + p.window) × ((seen ≡ number) ⊎ (load p seen (number + 1) ≤ p.most))
