-- The made file: its headers, one tile-part with the packets of random code-blocks, EOC.
use Rattle.std.specs.Prelude.{ℕ, ◌+◌, List, [], ◌∷◌, ◌++◌, length, map}
use Rattle.std.specs.List.{flat_map, range_with_len}
use Rattle.jx_base.specs.declared.names.Band.{Band}
use Rattle.jx_base.specs.Bands.{bands_at}
use Rattle.jx_base.specs.Joined.{joined}
use Rattle.jx_base.specs.Pieces.{PieceValue}
use Rattle.jx_geom.specs.Precincts.{cells_at, leaf_number, leaves}
use Rattle.jx_packet_header.specs.declared.BandCells.{BandCells}
use Rattle.jx_packet_header.specs.Written.{Leafed}
use Rattle.jx_packet_header.specs.LeavesFit.{header_at}
use Rattle.jx_codestream.specs.Spells.{TilePart, file_bytes}
use Rattle.jx_tier2_reader.specs.BlockOf.{pieces_at}
use Rattle.jx_tile.specs.Cells.{sizes_of}
use Rattle.jx_tier2_reader.specs.Planned.{leaf_part_of}
use Rattle.jx_generate.specs.Drawn.{Drawn, block_drawn}
use Rattle.jx_generate.specs.Headers.{geometry_made, main_made, siz_made}

-- the one precinct of a resolution of a component: how many blocks it has in each band, of 13 planes, and its blocks as leaves
unfoldable pub bands_made : ℕ → ℕ → ℕ → ℕ → List BandCells
bands_made w h c r = map (λ (b : Band). sizes_of (cells_at (geometry_made w h) c r 0 b) 13) (bands_at r)

-- blocks are drawn in the order of their numbers
abbrev pub leaf_drawn : ℕ → ℕ → ℕ → ℕ → ℕ → ℕ → Drawn
leaf_drawn seed w h c r j = block_drawn seed (leaf_number (geometry_made w h) c r 0 j)

abbrev pub leaf_of_drawn : ℕ → Drawn → Leafed
leaf_of_drawn j d = record { zero = d.zero; parts = map (leaf_part_of j) d.pieces }

abbrev pub leaf_made : ℕ → ℕ → ℕ → ℕ → ℕ → ℕ → Leafed
leaf_made seed w h c r j = leaf_of_drawn j (leaf_drawn seed w h c r j)

unfoldable pub leaves_made : ℕ → ℕ → ℕ → ℕ → ℕ → List Leafed
leaves_made seed w h c r = map (leaf_made seed w h c r) (range_with_len 0 (leaves (geometry_made w h) c r 0))

-- a block's bytes in a layer
unfoldable pub drawn_layer_bytes : ℕ → Drawn → List ℕ
drawn_layer_bytes layer d = flat_map (λ (q : PieceValue). q.bytes) (pieces_at layer d.pieces)

abbrev pub drawn_leaf_bytes : ℕ → ℕ → ℕ → ℕ → ℕ → ℕ → ℕ → List ℕ
drawn_leaf_bytes seed w h c r layer j = drawn_layer_bytes layer (leaf_drawn seed w h c r j)

-- B.9, B.10: a packet is its one header and the bytes of its blocks
unfoldable pub header_made : ℕ → ℕ → ℕ → ℕ → ℕ → ℕ → List ℕ
header_made seed w h c r layer = header_at 12 0 (bands_made w h c r) (leaves_made seed w h c r) layer

unfoldable pub data_made : ℕ → ℕ → ℕ → ℕ → ℕ → ℕ → List ℕ
data_made seed w h c r layer = joined (drawn_leaf_bytes seed w h c r layer) 0 (leaves (geometry_made w h) c r 0)

unfoldable pub packet_made : ℕ → ℕ → ℕ → ℕ → ℕ → ℕ → List ℕ
packet_made seed w h layer r c = header_made seed w h c r layer ++ data_made seed w h c r layer

-- B.12.1.1: layer by layer, in each resolution by resolution, in each component by component
unfoldable pub resolution_made : ℕ → ℕ → ℕ → ℕ → ℕ → List ℕ
resolution_made seed w h layer r = joined (packet_made seed w h layer r) 0 3

unfoldable pub layer_made : ℕ → ℕ → ℕ → ℕ → List ℕ
layer_made seed w h layer = joined (resolution_made seed w h layer) 0 6

unfoldable pub body_made : ℕ → ℕ → ℕ → List ℕ
body_made seed w h = joined (layer_made seed w h) 0 12

-- A.4.2: Psot counts from SOT's first byte on, with 12 bytes of SOT and 2 of SOD
abbrev pub part_with : List ℕ → TilePart
part_with body = record { sot = record { tile = 0; psot = 14 + length body; part = 0; parts = 1 }; header = []; body = body }

unfoldable pub file_with : ℕ → ℕ → List ℕ → List ℕ
file_with w h body = file_bytes (siz_made w h) main_made (part_with body ∷ []) []

-- the file of a seed, a width and a height
unfoldable pub file_made : ℕ → ℕ → ℕ → List ℕ
file_made seed w h = file_with w h (body_made seed w h)
