use Rattle.std.proofs.Common.{◌≡◌, ◌+◌, ◌≤◌, ◌-◌, drop, length}
use Rattle.jx_tile_parts.specs.Groups.{groups_of, more_groups}
use Rattle.jx_tile_parts.proofs.cutting.count_parts.Given as goal

abbrev pub invariant-loop-from : goal.invariant-loop-from
invariant-loop-from l = record {
  within : l.from ≤ length l.names;
  few : l.count ≤ l.from;
  count : l.count + length (more_groups l.parts (drop l.from l.names)) ≡ length (groups_of l.parts l.names);
}

abbrev pub decreases-loop-from : goal.decreases-loop-from
decreases-loop-from l = length l.names - l.from
