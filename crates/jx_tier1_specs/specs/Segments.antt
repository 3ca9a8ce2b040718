-- Segments without where their bytes lie in memory, and the style bits that decide how passes are coded (ITU-T T.800, table A.19).
use Rattle.std.specs.Prelude.{ℕ, ◌-◌, ◌==◌, Bool, ◌||◌, List}
use Rattle.std.specs.Borrow.{Bor}
use Rattle.jx_base.specs.Passes.{end_pass}

abbrev pub bytes_of : Bor (List ℕ) → List ℕ
bytes_of s = s.now

-- the first pass of a segment
abbrev pub begins : ℕ → ℕ → Bool
begins style pass = pass == 0 || end_pass style (pass - 1)
