-- Inner: a picture whose file is made, and the writers of its precincts.
use Rattle.std.specs.Prelude.{ℕ, ◌≡◌, ◌+◌, nat_lt, List, map, if◌then◌else◌}
use Rattle.std.specs.List.{flat_map, range_with_len}
use Rattle.jx_base.specs.Pieces.{PieceValue}
use Rattle.jx_geom.specs.Counts.{tile_blocks}
use Rattle.jx_geom.specs.Geometry.{Geometry, rect_of_tile}
use Rattle.jx_packet_header.specs.Written.{Plan}
use Rattle.jx_tier2_reader.specs.BlockOf.{pieces_at}
use Rattle.jx_generate.specs.Drawn.{Drawn, block_drawn}
use Rattle.jx_generate.specs.Headers.{AreSizes, geometry_made}
use Rattle.jx_generate.specs.Made.{bands_made, leaves_made}

pub record Making : Type 0 where
  pub seed : ℕ
  pub width : ℕ
  pub height : ℕ

-- how many blocks are drawn
unfoldable pub count_drawn : ℕ → ℕ → ℕ
count_drawn w h = tile_blocks (rect_of_tile (geometry_made w h)) (geometry_made w h).shapes

pub record IsMaking (m : Making) (g : Geometry) (blocks : List Drawn) : Type 0 where
  pub sizes : AreSizes m.width m.height
  pub geometry_is : g ≡ geometry_made m.width m.height
  pub blocks_are : blocks ≡ map (block_drawn m.seed) (range_with_len 0 (count_drawn m.width m.height))

-- the writer of a precinct before the packet of a layer
abbrev pub plan_made : Making → ℕ → ℕ → ℕ → Plan
plan_made m c r layer = record { style = 0; layers = 12; next = layer; bands = bands_made m.width m.height c r; leaves = leaves_made m.seed m.width m.height c r }

-- those of a resolution, one for each component
abbrev pub three_made : Making → ℕ → ℕ → Plan × Plan × Plan
three_made m r layer = (plan_made m 0 r layer, plan_made m 1 r layer, plan_made m 2 r layer)

-- those of the tile, resolution by resolution, once the packets of a layer were written of the first n resolutions
abbrev pub layer_after : ℕ → ℕ → ℕ → ℕ
layer_after layer n r = if nat_lt r n then layer + 1 else layer

abbrev pub writers_made : Making → ℕ → ℕ → List (Plan × Plan × Plan)
writers_made m layer n = map (λ (r : ℕ). three_made m r (layer_after layer n r)) (range_with_len 0 6)

-- the bytes of pieces in a layer
abbrev pub pieces_bytes : ℕ → List PieceValue → List ℕ
pieces_bytes layer pieces = flat_map (λ (q : PieceValue). q.bytes) (pieces_at layer pieces)
