use Rattle.std.proofs.Common.{◌≤◌, ◌-◌}
use Rattle.jx_same.specs.Items.{block_items, differs}
use Rattle.jx_same.specs.Runs.{IsBest, row_items}
use Rattle.jx_same.specs.Sides.{AreOnShelf, geometry_at, meaning_at}
use Rattle.jx_same.proofs.cells.compare_cells.Given as goal

abbrev pub invariant-loop-left : goal.invariant-loop-left
invariant-loop-left l = record {
  within : l.left ≤ l.walk.wide;
  shelf : AreOnShelf l.b l.name l.shelf;
  best : IsBest (differs (meaning_at l.a) (meaning_at l.b)) (row_items (block_items (geometry_at l.a) l.name.comp l.name.res l.name.band) l.walk.wide 0 l.left) l.low l.high l.best;
}

abbrev pub decreases-loop-left : goal.decreases-loop-left
decreases-loop-left l = l.walk.wide - l.left
