use Rattle.std.proofs.Common.{◌≡◌, None}
use Rattle.std.specs.List.{find}
use Rattle.jx_base.specs.Joined.{joined}
use Rattle.jx_same.specs.Items.{block_items, differs}
use Rattle.jx_same.specs.Sides.{AreOnShelf, geometry_at, meaning_at}
use Rattle.jx_same.proofs.cells.compare_between.Given as goal

abbrev pub invariant-loop-index : goal.invariant-loop-index
invariant-loop-index l = record {
  shelf : AreOnShelf l.b l.name l.shelf;
  none : find (differs (meaning_at l.a) (meaning_at l.b)) (joined (block_items (geometry_at l.a) l.name.comp l.name.res l.name.band) l.low l.index) ≡ None;
}
