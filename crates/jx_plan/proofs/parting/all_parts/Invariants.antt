use Rattle.std.proofs.Common.{ℕ, ◌<◌, ◌≤◌, ◌*◌}
use Rattle.jx_tile_parts.specs.Groups.{HasFewParts}
use Rattle.jx_plan.proofs.PartedLemmas.{IsTotalBelow}
use Rattle.jx_plan.proofs.parting.all_parts.Given as goal

abbrev pub invariant-loop-tile : goal.invariant-loop-tile
invariant-loop-tile l = record {
  few : (t : ℕ) → t < l.tile → HasFewParts l.parts l.written t;
  total : IsTotalBelow l.parts l.written l.tile l.all;
  small : l.all ≤ 255 * l.tile;
}
