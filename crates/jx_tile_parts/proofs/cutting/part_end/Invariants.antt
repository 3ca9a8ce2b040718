use Rattle.std.proofs.Common.{◌≡◌, ◌+◌, ◌≤◌, drop, length}
use Rattle.jx_tile_parts.proofs.GroupLemmas.{run_of}
use Rattle.jx_tile_parts.proofs.cutting.part_end.Given as goal

abbrev pub invariant-loop-end : goal.invariant-loop-end
invariant-loop-end l = record {
  within : l.end ≤ length l.names;
  run : l.end + run_of l.parts l.key (drop l.end l.names) ≡ l.from + 1 + run_of l.parts l.key (drop (l.from + 1) l.names);
}
