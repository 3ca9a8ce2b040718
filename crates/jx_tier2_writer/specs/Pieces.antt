-- Inner: a tile that is written piece by piece: for each tile-part what stands before its packets, and which of the tile's packets are its.
use Rattle.std.specs.Prelude.{◌≡◌, ◌≤◌, ◌+◌, ◌-◌, ◌^◌, ℕ, List, [], ◌∷◌, length, map, drop, take}
use Rattle.std.specs.Borrow.{Bor}
use Rattle.std.specs.List.{All, concat}
use Rattle.jx_base.specs.declared.pieces.Block.{Block}
use Rattle.jx_geom.specs.Geometry.{Geometry}
use Rattle.jx_progression.specs.Packets.{IsPacketName}
use Rattle.jx_progression.specs.declared.names.PacketName.{PacketName}
use Rattle.jx_codestream.specs.declared.Stream.{Stream}
use Rattle.jx_codestream.specs.Shapes.{layers_of}
use Rattle.jx_tier2_reader.specs.Written.{Packets, packet_bytes}
use Rattle.jx_codeblock.specs.Recoded.{WrittenBlock}
use Rattle.jx_options.specs.declared.Marks.{Marks}
use Rattle.jx_tier2_writer.specs.Names.{AreSendings, tile_names}
use Rattle.jx_tier2_writer.specs.Packed.{own_packets}
use Rattle.jx_tier2_writer.specs.Tile.{block_written}
use Rattle.jx_tier2_writer.specs.declared.assemble.Layout.{Layout}
use Rattle.jx_tier2_writer.specs.declared.tile_part.PartOut.{PartOut}

-- packets, from that of a number in its tile on, each a piece
abbrev pub packet_pieces : Packets → ℕ → List PacketName → List (List ℕ)
packet_pieces ps number [] = []
packet_pieces ps number (p ∷ names) = packet_bytes number (ps.written p) ∷ packet_pieces ps (number + 1) names

-- the pieces of a tile-part: what stands before its packets, and each packet
abbrev pub part_pieces : Packets → List PacketName → PartOut → List (List ℕ)
part_pieces ps names p = p.front.items ∷ packet_pieces ps p.from (take (p.end - p.from) (drop p.from names))

-- its packets are some of the tile's, and its size is that of its pieces
pub record IsPartOut (ps : Packets) (names : List PacketName) (p : PartOut) : Type 0 where
  pub order : p.from ≤ p.end
  pub within : p.end ≤ length names
  pub size : p.size ≡ length (concat (part_pieces ps names p))

-- those of all tile-parts
abbrev pub pieces_with : Packets → List PacketName → List PartOut → List (List (List ℕ))
pieces_with ps names parts = map (part_pieces ps names) parts

abbrev pub tile_pieces : Packets → Layout → List (List (List ℕ))
tile_pieces ps layout = pieces_with ps layout.names.items layout.parts.items

-- a tile is laid out: its precincts are ready to be sent, and its packets stand in its tile-parts
pub record IsLayout (m : Marks) (s : Stream) (g : Geometry) (own : List Block) (datas : List (List ℕ)) (layout : Layout) : Type 0 where
  pub sent : AreSendings s g own datas (tile_names g) layout.list.items
  pub each : All (IsPacketName g (layers_of s g.tile)) layout.names.items
  pub few : length layout.names.items ≤ 2 ^ 22
  pub parts : All (IsPartOut (own_packets m s g own) layout.names.items) layout.parts.items

-- blocks that are lent, as they are written, and their coded bytes
abbrev pub blocks_lent : List (Bor WrittenBlock) → List Block
blocks_lent blocks = map (λ (r : Bor WrittenBlock). block_written r.now) blocks

abbrev pub bytes_lent : List (Bor WrittenBlock) → List (List ℕ)
bytes_lent blocks = map (λ (r : Bor WrittenBlock). r.now.recoding.bytes) blocks
