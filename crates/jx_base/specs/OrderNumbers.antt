-- The numbers of the five progression orders (ITU-T T.800, Table A.16).
use Rattle.std.specs.Prelude.{ℕ, ◌≤◌}

abbrev pub IsOrderNumber : ℕ → Type 0
IsOrderNumber n = n ≤ 4
