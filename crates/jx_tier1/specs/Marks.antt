-- Where a block is significant, and where it is negative. Columns and rows count from 1 on.
use Rattle.std.specs.Prelude.{ℕ, ◌-◌, ◌==◌, nat_lt, Bool, ◌||◌, if◌then◌else◌}
use Rattle.jx_tier1_specs.specs.Cells.{Cells, coef_at, significant}
use Rattle.jx_tier1_specs.specs.Near.{one_if}

abbrev pub is_outside : Cells → ℕ → ℕ → Bool
is_outside g column row = column == 0 || row == 0 || nat_lt g.width column || nat_lt g.height row

-- 1 where a significant coefficient stands, else 0
unfoldable pub mark : Cells → ℕ → ℕ → ℕ
mark g column row = if is_outside g column row then 0 else one_if (significant (coef_at g (column - 1) (row - 1)))

-- 1 where a coefficient below 0 stands, else 0
unfoldable pub minus : Cells → ℕ → ℕ → ℕ
minus g column row = if is_outside g column row then 0 else one_if (coef_at g (column - 1) (row - 1)).negative
