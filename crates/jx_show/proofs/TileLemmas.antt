-- There is a first tile.
use Rattle.std.proofs.Common.{◌<◌, arith}
use Rattle.jx_geom.proofs.TileLemmas.{place_in_one_tile}
use Rattle.jx_codestream.specs.declared.Stream.{Stream}
use Rattle.jx_codestream.specs.First.{canvas_of, tile_number}
use Rattle.jx_codestream.specs.InRange.{StreamInRange}

pub first_tile : (s : Stream) → StreamInRange s → 0 < tile_number s.siz
first_tile s r =
    let one = place_in_one_tile (canvas_of s.siz) s.siz.x0 s.siz.y0 r.canvas (record {
      across = record { from = omega arith; below = omega (arith, r.canvas.some_across) };
      down = record { from = omega arith; below = omega (arith, r.canvas.some_down) };
    }) in
    omega (arith, one.holds.0)
