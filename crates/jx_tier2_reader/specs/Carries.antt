-- Packets that carry the pieces of given blocks: those of the blocks of their precinct in their layer, block by block, and their
-- bytes joined (ITU-T T.800, B.9 and B.10).
use Rattle.std.specs.Prelude.{◌≡◌, ◌+◌, ◌<◌, ℕ, List, [], length, map, slice_get, Option, Some, None}
use Rattle.std.specs.List.{flat_map}
use Rattle.jx_base.specs.declared.pieces.Block.{Block}
use Rattle.jx_base.specs.Joined.{joined}
use Rattle.jx_base.specs.Pieces.{PieceValue}
use Rattle.jx_geom.specs.Numbering.{blocks_below}
use Rattle.jx_packet_header.specs.declared.HeaderPart.{HeaderPart}
use Rattle.jx_progression.specs.declared.names.PacketName.{PacketName}
use Rattle.jx_progression.specs.Packets.{IsPacketName}
use Rattle.jx_codestream.specs.declared.Stream.{Stream}
use Rattle.jx_codestream.specs.First.{canvas_of}
use Rattle.jx_codestream.specs.Shapes.{geometry, shapes_of, layers_of}
use Rattle.jx_geom.specs.Precincts.{leaves}
use Rattle.jx_geom.specs.Precincts.{leaf_number}
use Rattle.jx_tier2_reader.specs.Blocks.{zero_in}
use Rattle.jx_tier2_reader.specs.BlockOf.{pieces_at}
use Rattle.jx_tier2_reader.specs.Written.{Packets, next_layer}

abbrev pub pieces_of : Option Block → List PieceValue
pieces_of None = []
pieces_of (Some block) = block.pieces

abbrev pub zero_of : Option Block → ℕ
zero_of None = 0
zero_of (Some block) = block.zero

-- a block of a packet's precinct, among all blocks of the codestream
abbrev pub block_in : Stream → ℕ → List Block → PacketName → ℕ → Option Block
block_in s t blocks p j = slice_get blocks (blocks_below (canvas_of s.siz) (shapes_of s) t + leaf_number (geometry s t) p.comp p.res p.precinct j)

-- its pieces in the packet, as parts and as bytes
abbrev pub carried : Stream → ℕ → List Block → PacketName → ℕ → List PieceValue
carried s t blocks p j = pieces_at p.layer (pieces_of (block_in s t blocks p j))

abbrev pub header_part_of : ℕ → PieceValue → HeaderPart
header_part_of j q = record { block = j; first = q.first; passes = q.passes; length = length q.bytes }

abbrev pub carried_parts : Stream → ℕ → List Block → PacketName → ℕ → List HeaderPart
carried_parts s t blocks p j = map (header_part_of j) (carried s t blocks p j)

abbrev pub carried_bytes : Stream → ℕ → List Block → PacketName → ℕ → List ℕ
carried_bytes s t blocks p j = flat_map (λ (q : PieceValue). q.bytes) (carried s t blocks p j)

pub record Carries (s : Stream) (t : ℕ) (blocks : List Block) (ps : Packets) (p : PacketName) : Type 0 where
  pub parts : (ps.written p).parts ≡ joined (carried_parts s t blocks p) 0 (leaves (geometry s t) p.comp p.res p.precinct)
  pub bytes : (ps.written p).bytes ≡ joined (carried_bytes s t blocks p) 0 (leaves (geometry s t) p.comp p.res p.precinct)
  -- the header tells the zero planes of each block of which it has a piece
  pub zeros : (j : ℕ) → j < leaves (geometry s t) p.comp p.res p.precinct → (carried s t blocks p j ≡ [] → ⊥)
      → zero_in (ps.before (next_layer p)) j ≡ zero_of (block_in s t blocks p j)

-- all packets of a tile do
abbrev pub AllCarry : Stream → ℕ → List Block → Packets → Type 0
AllCarry s t blocks ps = (p : PacketName) → IsPacketName (geometry s t) (layers_of s t) p → Carries s t blocks ps p
