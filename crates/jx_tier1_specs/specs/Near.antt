-- The neighbours of a place (ITU-T T.800, D.3 and figure D.2).
use Rattle.std.specs.Prelude.{ℕ, ℤ, pos, negsuc, ◌+◌, ◌-◌, ◌%◌, ◌==◌, nat_lt, Bool, ◌&&◌, ◌||◌, not, if◌then◌else◌}
use Rattle.jx_tier1_specs.specs.declared.coef.Coef.{Coef}
use Rattle.jx_tier1_specs.specs.Cells.{Cells, zero_coef, coef_at, significant}

-- columns and rows from 1 on, the border of the block being 0 and one past its sides. Outside the block nothing is
-- significant, and with causal contexts nothing of the next stripe is, seen from the last row of a stripe (D.7).
abbrev pub is_unseen : Cells → Bool → ℕ → ℕ → ℕ → Bool
is_unseen g causal y column row =
    column == 0 || row == 0 || nat_lt g.width column || nat_lt g.height row || (causal && y % 4 == 3 && row == y + 2)

-- what is seen in such a column and row from a place in row y
unfoldable pub coef_near : Cells → Bool → ℕ → ℕ → ℕ → Coef
coef_near g causal y column row = if is_unseen g causal y column row then zero_coef else coef_at g (column - 1) (row - 1)

abbrev pub one_if : Bool → ℕ
one_if b = if b then 1 else 0

abbrev pub one_at : Cells → Bool → ℕ → ℕ → ℕ → ℕ
one_at g causal y column row = one_if (significant (coef_near g causal y column row))

-- how many neighbours of the place in column x and row y are significant to its sides, above and below, on its diagonals
unfoldable pub sides_of : Cells → Bool → ℕ → ℕ → ℕ
sides_of g causal x y = one_at g causal y x (y + 1) + one_at g causal y (x + 2) (y + 1)

unfoldable pub upright_of : Cells → Bool → ℕ → ℕ → ℕ
upright_of g causal x y = one_at g causal y (x + 1) y + one_at g causal y (x + 1) (y + 2)

unfoldable pub diagonals_of : Cells → Bool → ℕ → ℕ → ℕ
diagonals_of g causal x y =
    one_at g causal y x y + one_at g causal y (x + 2) y + one_at g causal y x (y + 2) + one_at g causal y (x + 2) (y + 2)

-- whether any is
abbrev pub has_near : Cells → Bool → ℕ → ℕ → Bool
has_near g causal x y = nat_lt 0 (sides_of g causal x y + upright_of g causal x y + diagonals_of g causal x y)

-- how many of two coefficients are significant with the one sign, and with the other
abbrev pub positives : Coef → Coef → ℕ
positives a b = one_if (significant a && not a.negative) + one_if (significant b && not b.negative)

abbrev pub negatives : Coef → Coef → ℕ
negatives a b = one_if (significant a && a.negative) + one_if (significant b && b.negative)

-- the sum of their signs, cut to -1 to 1 (table D.2)
unfoldable pub leaning : Coef → Coef → ℤ
leaning a b =
    if nat_lt (negatives a b) (positives a b) then pos 1
    else if nat_lt (positives a b) (negatives a b) then negsuc 0
    else pos 0

unfoldable pub across_of : Cells → Bool → ℕ → ℕ → ℤ
across_of g causal x y = leaning (coef_near g causal y x (y + 1)) (coef_near g causal y (x + 2) (y + 1))

unfoldable pub down_of : Cells → Bool → ℕ → ℕ → ℤ
down_of g causal x y = leaning (coef_near g causal y (x + 1) y) (coef_near g causal y (x + 1) (y + 2))
