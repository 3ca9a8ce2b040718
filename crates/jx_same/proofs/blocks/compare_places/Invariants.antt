use Rattle.std.proofs.Common.{◌≡◌, None}
use Rattle.std.specs.List.{find}
use Rattle.jx_base.specs.Joined.{joined}
use Rattle.jx_base.specs.Places.{column_at, row_at}
use Rattle.jx_same.specs.Items.{coef_item, differs}
use Rattle.jx_same.specs.Sides.{AreOnShelf, meaning_at}
use Rattle.jx_same.proofs.blocks.compare_places.Given as goal

abbrev pub invariant-loop-number : goal.invariant-loop-number
invariant-loop-number l = record {
  column : l.x ≡ column_at l.rect l._number;
  row : l.y ≡ row_at l.rect l._number;
  shelf : AreOnShelf l.b l.name l.shelf;
  none : find (differs (meaning_at l.a) (meaning_at l.b)) (joined (coef_item l.a.tile l.name.comp l.name.res l.name.band l.rect) 0 l._number) ≡ None;
}
