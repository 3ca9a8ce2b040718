use Rattle.std.proofs.Common.{◌≡◌, ◌<◌, ◌-◌, [], take}
use Rattle.std.specs.Prelude.{◌↔◌, IsTrue}
use Rattle.jx_base.specs.Joined.{joined}
use Rattle.jx_geom.specs.Counts.{tile_blocks, tile_precincts}
use Rattle.jx_geom.specs.Geometry.{LacksPlace}
use Rattle.jx_geom.specs.Resolutions.{component_resolutions}
use Rattle.jx_geom.proofs.empty.has_no_place.Given as goal

abbrev pub invariant-loop-comp : goal.invariant-loop-comp
invariant-loop-comp l = record {
  none : 0 < l.comp → IsTrue l.none ↔ LacksPlace l.tile l.comps (l.comp - 1);
  blocks : tile_blocks l.tile (take l.comp l.comps) ≡ 0;
  precincts : tile_precincts l.tile (take l.comp l.comps) ≡ 0;
  list : joined (component_resolutions l.tile l.comps) 0 l.comp ≡ [];
}
