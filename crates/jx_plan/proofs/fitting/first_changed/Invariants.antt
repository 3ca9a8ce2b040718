use Rattle.std.proofs.Common.{◌<◌, ℕ, Some}
use Rattle.jx_plan.specs.Fits.{KeepsBlocks}
use Rattle.jx_plan.specs.Steps.{IsKnown}
use Rattle.jx_plan.proofs.fitting.first_changed.Given as goal

abbrev pub invariant-loop-tile : goal.invariant-loop-tile
invariant-loop-tile l = record {
  known : IsKnown l.known (Some l.items) l.stream;
  below : (t : ℕ) → t < l.tile → KeepsBlocks (Some l.items) l.stream t;
}
