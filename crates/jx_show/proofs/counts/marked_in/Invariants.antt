use Rattle.std.proofs.Common.{◌≡◌, ◌≤◌, take}
use Rattle.jx_show.specs.Facts.{marked_in}
use Rattle.jx_show.proofs.counts.marked_in.Given as goal

abbrev pub invariant-loop-segment : goal.invariant-loop-segment
invariant-loop-segment l = record {
  count : l.count ≡ marked_in l.mark (take l.segment-index l.segments);
  most : l.count ≤ l.segment-index;
}
