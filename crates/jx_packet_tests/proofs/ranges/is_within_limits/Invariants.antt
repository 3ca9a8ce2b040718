use Rattle.std.proofs.Common.{◌≡◌, ◌≤◌, ◌^◌, take}
use Rattle.jx_geom.specs.Counts.{tile_blocks, tile_precincts}
use Rattle.jx_geom.specs.Rects.{tile_rect}
use Rattle.jx_packet_tests.proofs.ranges.is_within_limits.Given as goal
use Rattle.jx_base.specs.Limits.{most_blocks}

abbrev pub invariant-loop-comp : goal.invariant-loop-comp
invariant-loop-comp l = record {
  blocks : l.blocks ≡ tile_blocks (tile_rect l.canvas l.tile) (take l.comp-index l.comps);
  precincts : l.precincts ≡ tile_precincts (tile_rect l.canvas l.tile) (take l.comp-index l.comps);
  few_blocks : l.blocks ≤ most_blocks;
  few_precincts : l.precincts ≤ 2 ^ 22;
}
