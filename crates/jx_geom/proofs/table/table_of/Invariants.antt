use Rattle.std.proofs.Common.{◌≡◌, ◌<◌, ◌-◌, take}
use Rattle.std.specs.Prelude.{◌↔◌, IsTrue}
use Rattle.jx_base.specs.Joined.{joined}
use Rattle.jx_geom.specs.Counts.{tile_blocks, tile_precincts}
use Rattle.jx_geom.specs.Geometry.{LacksPlace}
use Rattle.jx_geom.specs.Resolutions.{component_resolutions, one_place}
use Rattle.jx_geom.proofs.table.table_of.Given as goal

abbrev pub invariant-loop-comp : goal.invariant-loop-comp
invariant-loop-comp l = record {
  places : l.places.items ≡ joined (one_place l.tile l.comps) 0 l.comp;
  list : l.list.items ≡ joined (component_resolutions l.tile l.comps) 0 l.comp;
  precincts : l.before.precincts ≡ tile_precincts l.tile (take l.comp l.comps);
  none : 0 < l.comp → IsTrue l.none ↔ LacksPlace l.tile l.comps (l.comp - 1);
  blocks : l.before.blocks ≡ tile_blocks l.tile (take l.comp l.comps);
}
