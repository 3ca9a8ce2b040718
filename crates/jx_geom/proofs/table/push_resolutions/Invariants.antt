use Rattle.std.proofs.Common.{◌≡◌, ◌+◌, ◌++◌}
use Rattle.jx_base.specs.Joined.{joined, sum_below}
use Rattle.jx_geom.specs.Counts.{precinct_count, resolution_blocks}
use Rattle.jx_geom.specs.Resolutions.{one_behind}
use Rattle.jx_geom.proofs.table.push_resolutions.Given as goal

abbrev pub invariant-loop-res : goal.invariant-loop-res
invariant-loop-res l = record {
  list : l.list.items ≡ l.initial.list.items ++ joined (one_behind l.tile l.shape l.comp l.initial.now.precincts l.initial.now.blocks) 0 l.res;
  precincts : l.now.precincts ≡ l.initial.now.precincts + sum_below (precinct_count l.tile l.shape) l.res;
  blocks : l.now.blocks ≡ l.initial.now.blocks + sum_below (resolution_blocks l.tile l.shape) l.res;
}
