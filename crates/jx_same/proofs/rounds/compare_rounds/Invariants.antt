use Rattle.std.proofs.Common.{◌≡◌, ◌≤◌, ◌-◌, None}
use Rattle.std.specs.List.{find}
use Rattle.jx_base.specs.Joined.{joined}
use Rattle.jx_same.specs.Items.{differs, tile_items}
use Rattle.jx_same.specs.Sides.{meaning_in}
use Rattle.jx_same.proofs.rounds.compare_rounds.Given as goal

abbrev pub invariant-loop-low : goal.invariant-loop-low
invariant-loop-low g l = record {
  within : l.low ≤ l.tiles;
  none : find (differs (meaning_in l.a) (meaning_in l.b)) (joined (tile_items l.a.stream.now) 0 l.low) ≡ None;
}

abbrev pub decreases-loop-low : goal.decreases-loop-low
decreases-loop-low g l = l.tiles - l.low
