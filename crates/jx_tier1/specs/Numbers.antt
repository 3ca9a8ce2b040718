-- Numbers of places in the order of the scan (ITU-T T.800, D.1).
use Rattle.std.specs.Prelude.{ℕ, ◌+◌, ◌*◌}
use Rattle.jx_tier1_specs.specs.Cells.{Cells}

-- the number of the first place of a column of a stripe that begins with this row and has so many
abbrev pub first_of : Cells → ℕ → ℕ → ℕ → ℕ
first_of g x top rows = top * g.width + x * rows
