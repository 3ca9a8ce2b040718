use Rattle.std.proofs.Common.{◌≡◌, drop, nat_lt}
use Rattle.std.specs.List.{find, flat_map}
use Rattle.jx_codestream.specs.Params.{tile_planes}
use Rattle.jx_codestream.proofs.checks.check_planes.Given as goal

abbrev pub invariant-loop-tile : goal.invariant-loop-tile
invariant-loop-tile l = find (nat_lt 74) (flat_map (tile_planes l.main.segments.now l.comps) l.tiles) ≡ find (nat_lt 74) (flat_map (tile_planes l.main.segments.now l.comps) (drop l.tile-index l.tiles))
