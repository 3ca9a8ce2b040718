use Rattle.std.proofs.Common.{◌≡◌}
use Rattle.jx_tier1_tests.proofs.walk_rows.drawn.Given as goal

abbrev pub invariant-loop-n : goal.invariant-loop-n
invariant-loop-n l = (l.grid.width ≡ l.width) × (l.grid.height ≡ l.height)
