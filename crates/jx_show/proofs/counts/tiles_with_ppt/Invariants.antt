use Rattle.std.proofs.Common.{◌≡◌, ◌≤◌}
use Rattle.jx_base.specs.Joined.{sum_below}
use Rattle.jx_show.specs.Facts.{packed_at}
use Rattle.jx_show.proofs.counts.tiles_with_ppt.Given as goal

abbrev pub invariant-loop-tile : goal.invariant-loop-tile
invariant-loop-tile l = record {
  count : l.count ≡ sum_below (packed_at l.stream) l.tile;
  most : l.count ≤ l.tile;
}
