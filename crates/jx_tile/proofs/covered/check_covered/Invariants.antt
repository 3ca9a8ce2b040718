use Rattle.std.proofs.Common.{ℕ, ◌<◌}
use Rattle.jx_tile.specs.Covered.{IsWhole}
use Rattle.jx_tile.proofs.covered.check_covered.Given as goal

abbrev pub invariant-loop-tile : goal.invariant-loop-tile
invariant-loop-tile l = (t : ℕ) → t < l.tile → IsWhole l.stream t
