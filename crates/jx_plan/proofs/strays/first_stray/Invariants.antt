use Rattle.std.proofs.Common.{ℕ, ◌<◌}
use Rattle.jx_plan.specs.Strays.{HasNoStrayIn}
use Rattle.jx_plan.proofs.strays.first_stray.Given as goal

abbrev pub invariant-loop-tile : goal.invariant-loop-tile
invariant-loop-tile l = (t : ℕ) → t < l.tile → HasNoStrayIn l.stream l.options l.layers t
