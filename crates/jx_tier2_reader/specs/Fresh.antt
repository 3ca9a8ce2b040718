-- The precincts of a tile of which no packet was read, one after another (ITU-T T.800, B.6 and B.9).
use Rattle.std.specs.Prelude.{ℕ, ◌+◌, List, [], ◌∷◌, length}
use Rattle.jx_base.specs.Joined.{joined}
use Rattle.jx_base.specs.Places.{size_of}
use Rattle.jx_geom.specs.Geometry.{Geometry, shape_of, precincts_in}
use Rattle.jx_packet_header.specs.Packet.{State}
use Rattle.jx_packet_header.specs.Precinct.{fresh_state}
use Rattle.jx_codestream.specs.declared.Stream.{Stream}
use Rattle.jx_codestream.specs.Shapes.{style_of}
use Rattle.jx_tile.specs.Cells.{precinct_bands}

abbrev pub fresh_precinct : Stream → Geometry → ℕ → ℕ → ℕ → State
fresh_precinct s g c r k = fresh_state (style_of s g.tile c) (precinct_bands s g c r k)

-- those of a resolution, of a component and of the tile, in their order
abbrev pub one_precinct : Stream → Geometry → ℕ → ℕ → ℕ → List State
one_precinct s g c r k = fresh_precinct s g c r k ∷ []

unfoldable pub fresh_resolution : Stream → Geometry → ℕ → ℕ → List State
fresh_resolution s g c r = joined (one_precinct s g c r) 0 (size_of (precincts_in g c r))

unfoldable pub fresh_component : Stream → Geometry → ℕ → List State
fresh_component s g c = joined (fresh_resolution s g c) 0 ((shape_of g c).levels + 1)

unfoldable pub fresh_precincts : Stream → Geometry → List State
fresh_precincts s g = joined (fresh_component s g) 0 (length g.shapes)
