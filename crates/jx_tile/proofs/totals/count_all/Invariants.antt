use Rattle.std.proofs.Common.{◌≡◌, ◌*◌, ◌≤◌, ◌^◌}
use Rattle.jx_base.specs.Joined.{sum_below}
use Rattle.jx_geom.specs.Numbering.{blocks_below}
use Rattle.jx_codestream.specs.First.{canvas_of}
use Rattle.jx_codestream.specs.Shapes.{shapes_of}
use Rattle.jx_tile.specs.Totals.{tile_packets}
use Rattle.jx_tile.proofs.totals.count_all.Given as goal

abbrev pub invariant-loop-tile : goal.invariant-loop-tile
invariant-loop-tile l = record {
  blocks : l.blocks ≡ blocks_below (canvas_of l.stream.siz) (shapes_of l.stream) l.tile;
  packets : l.packets ≡ sum_below (tile_packets l.stream) l.tile;
  most_blocks : l.blocks ≤ l.tile * 2 ^ 87;
  most_packets : l.packets ≤ l.tile * 2 ^ 103;
}
