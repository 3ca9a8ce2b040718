-- Inner: the packets of a tile as they are made from the blocks of that tile alone.
use Rattle.std.specs.Prelude.{◌+◌, ℕ, zero, suc, Bool, List, [], ◌++◌, length, map, sum_by, if◌then◌else◌}
use Rattle.jx_base.specs.declared.pieces.Block.{Block}
use Rattle.jx_base.specs.Joined.{joined}
use Rattle.jx_geom.specs.Geometry.{Geometry}
use Rattle.jx_geom.specs.Precincts.{leaves}
use Rattle.jx_packet_header.specs.LeavesFit.{parts_at}
use Rattle.jx_packet_header.specs.Written.{state_at}
use Rattle.jx_marker.specs.declared.Segment.{Segment}
use Rattle.jx_progression.specs.declared.names.PacketName.{PacketName}
use Rattle.jx_codestream.specs.declared.Stream.{Stream}
use Rattle.jx_codestream.specs.Params.{header_of}
use Rattle.jx_codestream.specs.Shapes.{layers_of, style_of}
use Rattle.jx_codestream.specs.Spells.{TilePart}
use Rattle.jx_tile.specs.Cells.{precinct_bands}
use Rattle.jx_marker.specs.Codes.{eph_spelling}
use Rattle.jx_tier2_reader.specs.Written.{Packets, WrittenPacket, bytes_from, packet_bytes, sop_bytes}
use Rattle.jx_options.specs.declared.Marks.{Marks}
use Rattle.jx_tile_parts.specs.Groups.{groups_of}
use Rattle.jx_tier2_writer.specs.Own.{leaf_bytes, own_header, own_leaves}
use Rattle.jx_tier2_writer.specs.TileParts.{written_part_header, parts_with, tile_part}

abbrev pub own_body : Geometry → List Block → PacketName → List ℕ
own_body g own p = joined (leaf_bytes g own p.comp p.res p.precinct p.layer) 0 (leaves g p.comp p.res p.precinct)

abbrev pub own_packet : Marks → Stream → Geometry → List Block → PacketName → WrittenPacket
own_packet m s g own p = record {
  sop = m.sop;
  header = own_header s g own p.comp p.res p.precinct p.layer;
  eph = m.eph;
  parts = parts_at p.layer (own_leaves g own p.comp p.res p.precinct);
  bytes = own_body g own p;
}

abbrev pub own_packets : Marks → Stream → Geometry → List Block → Packets
own_packets m s g own = record {
  written = own_packet m s g own;
  before = λ p. state_at (layers_of s g.tile) (style_of s g.tile p.comp) (precinct_bands s g p.comp p.res p.precinct) (own_leaves g own p.comp p.res p.precinct) p.layer;
}

-- the marks before a header and behind it
abbrev pub sop_of : Bool → ℕ → List ℕ
sop_of sop number = if sop then sop_bytes number else []

abbrev pub eph_of : Bool → List ℕ
eph_of eph = if eph then eph_spelling else []

-- how many bytes they take
abbrev pub marks_length : Marks → ℕ
marks_length m = (if m.sop then 6 else 0) + (if m.eph then 2 else 0)

abbrev pub packet_with : Marks → ℕ → List ℕ → List ℕ → List ℕ
packet_with m number header body = sop_of m.sop number ++ (header ++ (eph_of m.eph ++ body))

-- a packet's length
abbrev pub own_length : Marks → Stream → Geometry → List Block → PacketName → ℕ
own_length m s g own p = length (packet_bytes 0 (own_packet m s g own p))

-- and those of many together
abbrev pub total : List ℕ → ℕ
total lengths = sum_by (λ (n : ℕ). n) lengths

-- the tile's own segments, in its first tile-part
abbrev pub own_segments : ℕ → List Segment → List Segment
own_segments zero own = own
own_segments (suc part) own = []

-- a tile-part: its number, how many there are, and the number of its first packet
abbrev pub own_part : Marks → Stream → Geometry → List Block → ℕ → ℕ → ℕ → List PacketName → TilePart
own_part m s g own part parts number names =
    tile_part (length s.siz.comps) g.tile part parts (written_part_header m (header_of s g.tile) part (map (own_length m s g own) names)) (bytes_from (own_packets m s g own) number names)

-- those from one on
abbrev pub packed_parts_from : Marks → Stream → Geometry → List Block → ℕ → ℕ → ℕ → List (List PacketName) → List TilePart
packed_parts_from m s g own part parts number groups = parts_with m (length s.siz.comps) g.tile (header_of s g.tile) (own_packets m s g own) part parts number groups

-- all of a tile with these packets
abbrev pub own_parts : Marks → Stream → Geometry → List Block → List PacketName → List TilePart
own_parts m s g own names = packed_parts_from m s g own 0 (length (groups_of m.parts names)) 0 (groups_of m.parts names)
