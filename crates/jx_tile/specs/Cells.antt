-- The code-blocks of a precinct by bands (ITU-T T.800, B.6 and B.7).
use Rattle.std.specs.Prelude.{ℕ, ◌==◌, List, map, if◌then◌else◌}
use Rattle.jx_base.specs.declared.names.Rect.{Rect}
use Rattle.jx_base.specs.declared.names.Band.{Band}
use Rattle.jx_base.specs.Bands.{bands_at}
use Rattle.jx_base.specs.Places.{length_of, size_of}
use Rattle.jx_geom.specs.Geometry.{Geometry}
use Rattle.jx_geom.specs.Precincts.{cells_at}
use Rattle.jx_packet_header.specs.declared.BandCells.{BandCells}
use Rattle.jx_codestream.specs.declared.Stream.{Stream}
use Rattle.jx_codestream.specs.Params.{headers_at, planes_in}
use Rattle.jx_codestream.specs.TileHeaders.{TileHeaders}

-- how many stand side by side and one above another
abbrev pub sizes_of : Rect → ℕ → BandCells
sizes_of cells planes =
    if size_of cells == 0 then record { wide = 0; high = 0; planes = planes }
    else record { wide = length_of cells.x; high = length_of cells.y; planes = planes }

-- in each band of a precinct, by the headers of its tile
abbrev pub bands_in : TileHeaders → Geometry → ℕ → ℕ → ℕ → List BandCells
bands_in h g c r k = map (λ (b : Band). sizes_of (cells_at g c r k b) (planes_in h c r b)) (bands_at r)

unfoldable pub precinct_bands : Stream → Geometry → ℕ → ℕ → ℕ → List BandCells
precinct_bands s g c r k = bands_in (headers_at s g.tile) g c r k
