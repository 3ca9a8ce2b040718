-- One tile of a stream, with the headers that say its parameters and its geometry.
use Rattle.std.specs.Prelude.{◌≡◌, ◌<◌, ℕ, None}
use Rattle.jx_geom.specs.Geometry.{Geometry, GeometryInRange}
use Rattle.jx_codestream.specs.declared.Stream.{Stream}
use Rattle.jx_codestream.specs.First.{tile_number}
use Rattle.jx_codestream.specs.InRange.{StreamInRange}
use Rattle.jx_codestream.specs.Params.{headers_at}
use Rattle.jx_codestream.specs.Shapes.{geometry}
use Rattle.jx_codestream.specs.TileHeaders.{TileHeaders}
use Rattle.jx_tile.specs.Totals.{totals_fault}

-- which tile it is
pub record TileOf : Type 0 where
  pub stream : Stream
  pub number : ℕ

-- the headers and the geometry are those of a tile of the stream, within its limits
pub record AreOfTile (s : Stream) (h : TileHeaders) (g : Geometry) : Type 0 where
  pub range : StreamInRange s
  pub totals : totals_fault s ≡ None
  pub tile : g.tile < tile_number s.siz
  pub view : h ≡ headers_at s g.tile
  pub geometry : g ≡ geometry s g.tile
  pub limits : GeometryInRange g
