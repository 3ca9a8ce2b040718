use Rattle.std.proofs.Common.{◌≡◌, ◌≤◌, ◌-◌, None}
use Rattle.std.specs.List.{find}
use Rattle.jx_base.specs.Joined.{joined}
use Rattle.jx_same.specs.Items.{block_items, differs}
use Rattle.jx_same.specs.Runs.{row_items}
use Rattle.jx_same.specs.Sides.{geometry_at, meaning_at}
use Rattle.jx_same.proofs.cells.compare_rows.Given as goal

abbrev pub invariant-loop-row : goal.invariant-loop-row
invariant-loop-row l = record {
  from : l.low ≤ l.row;
  within : l.low ≤ l.high → l.row ≤ l.high;
  none : find (differs (meaning_at l.a) (meaning_at l.b))
      (joined (row_items (block_items (geometry_at l.a) l.name.comp l.name.res l.name.band) l.walk.wide 0 l.walk.wide) l.low l.row) ≡ None;
}

abbrev pub decreases-loop-row : goal.decreases-loop-row
decreases-loop-row l = l.high - l.row
