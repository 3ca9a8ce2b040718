-- Inner: the packets of a tile from the blocks of that tile alone, by their numbers in it.
use Rattle.std.specs.Prelude.{◌≡◌, ◌<◌, ◌≤◌, ℕ, List, length, map, slice_get}
use Rattle.std.specs.List.{All, range_with_len}
use Rattle.jx_base.specs.declared.pieces.Block.{Block}
use Rattle.jx_base.specs.Joined.{joined}
use Rattle.jx_base.specs.Pieces.{PieceValue}
use Rattle.jx_base.specs.Sound.{IsSound}
use Rattle.jx_geom.specs.Counts.{tile_blocks}
use Rattle.jx_geom.specs.Geometry.{Geometry, rect_of_tile}
use Rattle.jx_geom.specs.Precincts.{HasPrecinct, leaves, leaf_number}
use Rattle.jx_packet_header.specs.LeavesFit.{header_at}
use Rattle.jx_packet_header.specs.Written.{Leafed}
use Rattle.jx_codestream.specs.declared.Stream.{Stream}
use Rattle.jx_codestream.specs.Shapes.{layers_of, style_of}
use Rattle.jx_tier2_reader.specs.Carries.{pieces_of}
use Rattle.jx_tile.specs.Cells.{precinct_bands}
use Rattle.jx_tier2_reader.specs.Planned.{leaf_from}
use Rattle.jx_tier2_writer.specs.Coded.{HasLayers}
use Rattle.jx_tier2_writer.specs.BlockParts.{AreBlockParts, layer_bytes, row_at, row_bytes}
use Rattle.jx_tier2_writer.specs.Sendings.{Sending}
use Rattle.jx_base.specs.Limits.{most_blocks}

-- one block for each number in the tile, sound ones, with pieces in its layers
pub record AreOwnBlocks (s : Stream) (g : Geometry) (own : List Block) : Type 0 where
  pub all : length own ≡ tile_blocks (rect_of_tile g) g.shapes
  pub sound : All IsSound own
  pub layers : All (λ (b : Block). All (λ (q : PieceValue). q.layer < layers_of s g.tile) b.pieces) own

-- a precinct's blocks as leaves
abbrev pub own_leaf : Geometry → List Block → ℕ → ℕ → ℕ → ℕ → Leafed
own_leaf g own c r k j = leaf_from j (slice_get own (leaf_number g c r k j))

unfoldable pub own_leaves : Geometry → List Block → ℕ → ℕ → ℕ → List Leafed
own_leaves g own c r k = map (own_leaf g own c r k) (range_with_len 0 (leaves g c r k))

-- the bytes of a leaf in a layer
abbrev pub leaf_bytes : Geometry → List Block → ℕ → ℕ → ℕ → ℕ → ℕ → List ℕ
leaf_bytes g own c r k layer j = layer_bytes layer (pieces_of (slice_get own (leaf_number g c r k j)))

-- the headers of a precinct's layers
abbrev pub own_header : Stream → Geometry → List Block → ℕ → ℕ → ℕ → ℕ → List ℕ
own_header s g own c r k = header_at (layers_of s g.tile) (style_of s g.tile c) (precinct_bands s g c r k) (own_leaves g own c r k)

-- what is sent of a precinct, layer by layer: its headers and its blocks' bytes
pub record IsSending (s : Stream) (g : Geometry) (own : List Block) (datas : List (List ℕ)) (c r k : ℕ) (p : Sending) : Type 0 where
  pub headers : p.headers ≡ map (own_header s g own c r k) (range_with_len 0 (layers_of s g.tile))
  pub long : length p.sent ≡ layers_of s g.tile
  pub bytes : (l : ℕ) → l < layers_of s g.tile → row_bytes datas (row_at p.sent l) ≡ joined (leaf_bytes g own c r k l) 0 (leaves g c r k)
  pub sent : (l : ℕ) → AreBlockParts datas (row_at p.sent l)

-- what is asked where a precinct's blocks are taken: they are there, not too many, with pieces in so many layers
pub record HasLeaves (g : Geometry) (own : List Block) (count c r k : ℕ) : Type 0 where
  pub precinct : HasPrecinct g c r k
  pub few : leaves g c r k ≤ most_blocks
  pub there : (j : ℕ) → j < leaves g c r k → leaf_number g c r k j < length own
  pub layers : (j : ℕ) → j < leaves g c r k → HasLayers count (slice_get own (leaf_number g c r k j))
  pub small : length own ≤ most_blocks
