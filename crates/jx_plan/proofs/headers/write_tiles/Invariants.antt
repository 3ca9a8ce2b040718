use Rattle.std.proofs.Common.{◌≡◌, ◌++◌, map, drop}
use Rattle.jx_plan.specs.Headers.{tile_written, with_layers}
use Rattle.jx_plan.proofs.headers.write_tiles.Given as goal

abbrev pub invariant-loop-tile : goal.invariant-loop-tile
invariant-loop-tile l =
    l.copies.items ++ map (tile_written (with_layers l.options l.layers) l.comps l.read l.written) (drop l.tile-index l.tiles)
    ≡ map (tile_written (with_layers l.options l.layers) l.comps l.read l.written) l.tiles
