use Rattle.std.proofs.Common.{◌≡◌, ◌++◌, map, drop}
use Rattle.jx_reduce.specs.Reduction.{tile_left}
use Rattle.jx_reduce.proofs.headers.tiles_left.Given as goal

abbrev pub invariant-loop-tile : goal.invariant-loop-tile
invariant-loop-tile l = l.left.items ++ map (tile_left l.d) (drop l.tile-index l.tiles) ≡ map (tile_left l.d) l.tiles
