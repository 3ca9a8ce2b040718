use Rattle.std.proofs.Common.{◌≡◌, None}
use Rattle.std.specs.Prelude.{IsTrue}
use Rattle.std.specs.List.{find}
use Rattle.jx_base.specs.Joined.{joined}
use Rattle.jx_same.specs.Items.{differs, tile_items}
use Rattle.jx_same.specs.Shared.{AreSameMain}
use Rattle.jx_same.specs.Sides.{meaning_in}
use Rattle.jx_same.proofs.tiles.compare_between.Given as goal

abbrev pub invariant-loop-tile : goal.invariant-loop-tile
invariant-loop-tile g l = record {
  known : IsTrue l.known → AreSameMain l.a.stream.now l.b.stream.now;
  none : find (differs (meaning_in l.a) (meaning_in l.b)) (joined (tile_items l.a.stream.now) l.tiles.low l.tile) ≡ None;
}
