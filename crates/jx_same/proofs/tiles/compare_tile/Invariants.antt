use Rattle.std.proofs.Common.{◌≡◌, ◌<◌, ◌-◌, None}
use Rattle.std.specs.Prelude.{◌↔◌, IsTrue}
use Rattle.std.specs.List.{find}
use Rattle.jx_base.specs.Joined.{joined}
use Rattle.jx_same.specs.Items.{component_items, differs}
use Rattle.jx_same.specs.Sides.{IsEmptyIn, geometry_at, meaning_at}
use Rattle.jx_same.proofs.tiles.compare_tile.Given as goal

abbrev pub invariant-loop-comp : goal.invariant-loop-comp
invariant-loop-comp g l = record {
  empty : 0 < l.comp → IsTrue l.empty ↔ IsEmptyIn l.a (l.comp - 1);
  none : find (differs (meaning_at l.a) (meaning_at l.b)) (joined (component_items (geometry_at l.a)) 0 l.comp) ≡ None;
}
