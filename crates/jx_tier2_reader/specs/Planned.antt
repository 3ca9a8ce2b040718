-- Packets that are written from blocks: each precinct's headers are those of its blocks with their pieces, and its coded bytes
-- are the bytes of these pieces (ITU-T T.800, B.10).
use Rattle.std.specs.Prelude.{◌≡◌, ◌<◌, ◌≤◌, ℕ, List, map, Option}
use Rattle.std.specs.List.{range_with_len}
use Rattle.jx_base.specs.declared.pieces.Block.{Block}
use Rattle.jx_base.specs.Joined.{joined}
use Rattle.jx_base.specs.Pieces.{PieceValue}
use Rattle.jx_packet_header.specs.declared.LeafPart.{LeafPart}
use Rattle.jx_packet_header.specs.Written.{Leafed, state_at}
use Rattle.jx_packet_header.specs.LeavesFit.{header_at, parts_at}
use Rattle.jx_progression.specs.Steps.{name_of}
use Rattle.jx_codestream.specs.declared.Stream.{Stream}
use Rattle.jx_codestream.specs.Shapes.{geometry, layers_of, style_of}
use Rattle.jx_geom.specs.Precincts.{leaves}
use Rattle.jx_tile.specs.Cells.{precinct_bands}
use Rattle.jx_geom.specs.Precincts.{HasPrecinct}
use Rattle.jx_tier2_reader.specs.Written.{Packets}
use Rattle.jx_tier2_reader.specs.Carries.{pieces_of, zero_of, block_in, header_part_of, carried_bytes}

-- a block of a precinct as a leaf: its zero planes, and its pieces as parts with their layers
abbrev pub leaf_part_of : ℕ → PieceValue → LeafPart
leaf_part_of j q = record { layer = q.layer; told = header_part_of j q }

abbrev pub leaf_from : ℕ → Option Block → Leafed
leaf_from j o = record { zero = zero_of o; parts = map (leaf_part_of j) (pieces_of o) }

abbrev pub leaf_in : Stream → ℕ → List Block → ℕ → ℕ → ℕ → ℕ → Leafed
leaf_in s t blocks c r k j = leaf_from j (block_in s t blocks (name_of 0 r c k) j)

-- those of a precinct
unfoldable pub leaves_of_blocks : Stream → ℕ → List Block → ℕ → ℕ → ℕ → List Leafed
leaves_of_blocks s t blocks c r k = map (leaf_in s t blocks c r k) (range_with_len 0 (leaves (geometry s t) c r k))

-- one precinct of a tile is written from the blocks: in each layer the state before its packet, its header, of what parts the header
-- tells, and the coded bytes
pub record IsPlanned (s : Stream) (t : ℕ) (blocks : List Block) (ps : Packets) (c r k : ℕ) : Type 0 where
  pub before : (l : ℕ) → l ≤ layers_of s t
      → ps.before (name_of l r c k) ≡ state_at (layers_of s t) (style_of s t c) (precinct_bands s (geometry s t) c r k) (leaves_of_blocks s t blocks c r k) l
  pub headers : (l : ℕ) → l < layers_of s t
      → (ps.written (name_of l r c k)).header ≡ header_at (layers_of s t) (style_of s t c) (precinct_bands s (geometry s t) c r k) (leaves_of_blocks s t blocks c r k) l
  pub parts : (l : ℕ) → l < layers_of s t → (ps.written (name_of l r c k)).parts ≡ parts_at l (leaves_of_blocks s t blocks c r k)
  pub bytes : (l : ℕ) → l < layers_of s t
      → (ps.written (name_of l r c k)).bytes ≡ joined (carried_bytes s t blocks (name_of l r c k)) 0 (leaves (geometry s t) c r k)

-- all are
abbrev pub ArePlanned : Stream → ℕ → List Block → Packets → Type 0
ArePlanned s t blocks ps = (c r k : ℕ) → HasPrecinct (geometry s t) c r k → IsPlanned s t blocks ps c r k
