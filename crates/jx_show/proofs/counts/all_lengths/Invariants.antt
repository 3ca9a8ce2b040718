use Rattle.std.proofs.Common.{◌≡◌, ◌≤◌}
use Rattle.jx_base.specs.Joined.{sum_below}
use Rattle.jx_show.specs.Facts.{lengths_of_tile}
use Rattle.jx_show.proofs.counts.all_lengths.Given as goal

abbrev pub invariant-loop-tile : goal.invariant-loop-tile
invariant-loop-tile l = record {
  count : l.count ≡ sum_below (lengths_of_tile l.stream) l.tile;
  most : l.count ≤ l.tile;
}
