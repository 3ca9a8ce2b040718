use Rattle.std.proofs.Common.{◌≡◌, ◌≤◌, ◌-◌, None}
use Rattle.std.specs.List.{find}
use Rattle.jx_base.specs.Joined.{joined}
use Rattle.jx_same.specs.Items.{block_items, differs}
use Rattle.jx_same.specs.Runs.{unit_items}
use Rattle.jx_same.specs.Sides.{geometry_at, meaning_at}
use Rattle.jx_same.proofs.runs.compare_blocks.Given as goal

abbrev pub invariant-loop-low : goal.invariant-loop-low
invariant-loop-low g l = record {
  within : l.low ≤ l.units;
  none : find (differs (meaning_at l.a) (meaning_at l.b)) (joined (unit_items l.walk.by_rows (block_items (geometry_at l.a) l.name.comp l.name.res l.name.band) l.walk.wide) 0 l.low) ≡ None;
}

abbrev pub decreases-loop-low : goal.decreases-loop-low
decreases-loop-low g l = l.units - l.low
