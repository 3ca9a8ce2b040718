-- The file that is written from headers and code-blocks: for each tile its packets in the order of its progression entries, each
-- with its SOP, its one header, its EPH and its blocks' pieces, cut into tile-parts (ITU-T T.800, A.4, A.8, B.9 to B.12).
use Rattle.std.specs.Prelude.{◌≡◌, ◌<◌, ℕ, zero, suc, ◌+◌, List, [], ◌∷◌, ◌++◌, length, map, if◌then◌else◌}
use Rattle.jx_base.specs.declared.pieces.Block.{Block}
use Rattle.jx_base.specs.Joined.{joined}
use Rattle.jx_geom.specs.Precincts.{leaves}
use Rattle.jx_packet_header.specs.Packet.{State}
use Rattle.jx_packet_header.specs.Written.{state_at}
use Rattle.jx_packet_header.specs.LeavesFit.{header_at, parts_at}
use Rattle.jx_marker.specs.declared.Segment.{Segment}
use Rattle.jx_progression.specs.declared.names.PacketName.{PacketName}
use Rattle.jx_codestream.specs.declared.Stream.{Stream}
use Rattle.jx_codestream.specs.First.{tile_number}
use Rattle.jx_codestream.specs.Params.{header_of}
use Rattle.jx_codestream.specs.Shapes.{geometry, layers_of, style_of}
use Rattle.jx_codestream.specs.Spells.{TilePart, all_bytes, file_bytes}
use Rattle.jx_tile.specs.Cells.{precinct_bands}
use Rattle.jx_tier2_reader.specs.Carries.{carried_bytes}
use Rattle.jx_tier2_reader.specs.Planned.{leaves_of_blocks}
use Rattle.jx_tier2_reader.specs.Written.{WrittenPacket, Packets, packet_bytes, bytes_from}
use Rattle.jx_tile.specs.Covered.{IsListOf}
use Rattle.jx_options.specs.declared.Marks.{Marks}
use Rattle.jx_tile_parts.specs.Groups.{groups_of}
use Rattle.jx_tier2_writer.specs.Index.{index_of}
use Rattle.jx_tier2_writer.specs.Lengths.{length_segments}

-- a packet of a tile: its one header, for the blocks of its precinct, and the bytes of their pieces in its layer
abbrev pub packet_of : Marks → Stream → ℕ → List Block → PacketName → WrittenPacket
packet_of m s t blocks p = record {
  sop = m.sop;
  header = header_at (layers_of s t) (style_of s t p.comp) (precinct_bands s (geometry s t) p.comp p.res p.precinct) (leaves_of_blocks s t blocks p.comp p.res p.precinct) p.layer;
  eph = m.eph;
  parts = parts_at p.layer (leaves_of_blocks s t blocks p.comp p.res p.precinct);
  bytes = joined (carried_bytes s t blocks p) 0 (leaves (geometry s t) p.comp p.res p.precinct);
}

-- the state of its precinct before it
abbrev pub state_before : Stream → ℕ → List Block → PacketName → State
state_before s t blocks p =
    state_at (layers_of s t) (style_of s t p.comp) (precinct_bands s (geometry s t) p.comp p.res p.precinct) (leaves_of_blocks s t blocks p.comp p.res p.precinct) p.layer

unfoldable pub packets_of : Marks → Stream → ℕ → List Block → Packets
packets_of m s t blocks = record { written = packet_of m s t blocks; before = state_before s t blocks }

-- A.7.3: a packet's length counts its SOP, header, EPH and body
abbrev pub packet_length : Packets → PacketName → ℕ
packet_length ps p = length (packet_bytes 0 (ps.written p))

-- a tile-part: Psot counts from SOT's first byte on, with 12 bytes of SOT and 2 of SOD
abbrev pub tile_part : ℕ → ℕ → ℕ → ℕ → List Segment → List ℕ → TilePart
tile_part comps t part parts header body = record {
  sot = record { tile = t; psot = 14 + length (all_bytes comps header) + length body; part = part; parts = parts };
  header = header;
  body = body;
}

-- the tile's own header stands in its first tile-part; PLT follows in each
abbrev pub written_part_header : Marks → List Segment → ℕ → List ℕ → List Segment
written_part_header m own zero lengths = own ++ (if m.plt then length_segments lengths else [])
written_part_header m own (suc part) lengths = if m.plt then length_segments lengths else []

-- the tile-parts with these packets, from one on; packets are numbered over the tile
abbrev pub parts_with : Marks → ℕ → ℕ → List Segment → Packets → ℕ → ℕ → ℕ → List (List PacketName) → List TilePart
parts_with m comps t own ps part parts number [] = []
parts_with m comps t own ps part parts number (names ∷ groups) =
    tile_part comps t part parts (written_part_header m own part (map (packet_length ps) names)) (bytes_from ps number names)
    ∷ parts_with m comps t own ps (part + 1) parts (number + length names) groups

abbrev pub tile_parts : Marks → Stream → List Block → ℕ → List (List PacketName) → List TilePart
tile_parts m s blocks t groups = parts_with m (length s.siz.comps) t (header_of s t) (packets_of m s t blocks) 0 (length groups) 0 groups

-- the tile-parts of a tile
pub record AreTilePartsOf (m : Marks) (s : Stream) (blocks : List Block) (t : ℕ) (parts : List TilePart) : Type 0 where
  pub names : List PacketName
  pub order : IsListOf s t names
  pub are : parts ≡ tile_parts m s blocks t (groups_of m.parts names)

-- the whole file, whose main header ends with the index of its tile-parts where that is asked
pub record IsOutput (m : Marks) (s : Stream) (blocks : List Block) (b : List ℕ) : Type 0 where
  pub parts : ℕ → List TilePart
  pub are : (t : ℕ) → t < tile_number s.siz → AreTilePartsOf m s blocks t (parts t)
  pub bytes : b ≡ file_bytes s.siz (s.main ++ index_of m (joined parts 0 (tile_number s.siz))) (joined parts 0 (tile_number s.siz)) []
