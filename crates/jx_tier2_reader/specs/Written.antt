-- Tile data as a writer makes them: each packet has SOP or not, a header, EPH or not and its coded bytes (ITU-T T.800, A.8 and
-- B.10); a tile's packets stand one after another, and tile-parts are cut between them (A.4.2). A precinct's packets are a
-- chain over the layers, whatever stands between them.
use Rattle.std.specs.Prelude.{◌≡◌, ◌+◌, ◌%◌, ℕ, Bool, List, [], ◌∷◌, ◌++◌, length, map, take, drop, None, if◌then◌else◌}
use Rattle.jx_base.specs.declared.pieces.Block.{Block}
use Rattle.jx_base.specs.Joined.{joined}
use Rattle.jx_base.specs.Markers.{HasNoMarker}
use Rattle.jx_packet_header.specs.declared.HeaderPart.{HeaderPart}
use Rattle.jx_packet_header.specs.Packet.{State, IsPacket}
use Rattle.jx_progression.specs.declared.names.PacketName.{PacketName}
use Rattle.jx_progression.specs.Packets.{IsPacketName}
use Rattle.jx_progression.specs.Steps.{name_of}
use Rattle.jx_codestream.specs.declared.Body.{Body}
use Rattle.jx_codestream.specs.declared.Stream.{Stream}
use Rattle.jx_codestream.specs.First.{tile_number}
use Rattle.jx_codestream.specs.Shapes.{geometry, layers_of, tile_at}
use Rattle.jx_tier2_reader.specs.Fresh.{fresh_precinct}
use Rattle.jx_geom.specs.Precincts.{HasPrecinct}
use Rattle.jx_tier2_reader.specs.Data.{window, parts_length}
use Rattle.jx_tier2_reader.specs.Cuts.{Cut}
use Rattle.jx_tier2_reader.specs.Blocks.{founds_of, blocks_of_tile}
use Rattle.jx_tile.specs.Covered.{IsListOf}
use Rattle.jx_marker.specs.Codes.{sop_spelling, eph_spelling}

-- A.8.1: the SOP of a packet with a number in its tile, which is told in two bytes
abbrev pub sop_bytes : ℕ → List ℕ
sop_bytes number = sop_spelling (number % 65536)

-- what is written of a packet: SOP or not, its header, EPH or not, the parts of which the header tells, and their coded bytes
pub record WrittenPacket : Type 0 where
  pub sop : Bool
  pub header : List ℕ
  pub eph : Bool
  pub parts : List HeaderPart
  pub bytes : List ℕ

abbrev pub packet_bytes : ℕ → WrittenPacket → List ℕ
packet_bytes number w = (if w.sop then sop_bytes number else []) ++ (w.header ++ ((if w.eph then eph_spelling else []) ++ w.bytes))

-- a tile's packets, in whatever order: what is written of each, and the state of its precinct before it
pub record Packets : Type 0 where
  pub written : PacketName → WrittenPacket
  pub before : PacketName → State

-- the packet of the same precinct in the next layer
abbrev pub next_layer : PacketName → PacketName
next_layer p = name_of (p.layer + 1) p.res p.comp p.precinct

-- each piece has no marker
abbrev pub AreClear : List HeaderPart → List ℕ → Type 0
AreClear [] bytes = Unit {0}
AreClear (p ∷ parts) bytes = HasNoMarker 0 (take p.length bytes) × AreClear parts (drop p.length bytes)

-- one packet: its header is one, whatever follows it, and leads to the state before the next layer's; its bytes are those of its parts
pub record IsWritten (ps : Packets) (p : PacketName) : Type 0 where
  pub header : (rest : List ℕ) → IsPacket ((ps.written p).header ++ rest) (ps.before p) (ps.written p).parts (length (ps.written p).header) (ps.before (next_layer p))
  pub long : length (ps.written p).bytes ≡ parts_length (ps.written p).parts
  pub clear : AreClear (ps.written p).parts (ps.written p).bytes

-- all packets of a tile: each precinct begins fresh
pub record AreWritten (s : Stream) (t : ℕ) (ps : Packets) : Type 0 where
  pub first : (c r k : ℕ) → HasPrecinct (geometry s t) c r k → ps.before (name_of 0 r c k) ≡ fresh_precinct s (geometry s t) c r k
  pub each : (p : PacketName) → IsPacketName (geometry s t) (layers_of s t) p → IsWritten ps p

-- packets one after another, from that of a number in its tile on
abbrev pub bytes_from : Packets → ℕ → List PacketName → List ℕ
bytes_from ps number [] = []
bytes_from ps number (p ∷ list) = packet_bytes number (ps.written p) ++ bytes_from ps (number + 1) list

-- the packets of tile-parts in their order
abbrev pub packets_in : List (List PacketName) → List PacketName
packets_in [] = []
packets_in (names ∷ groups) = names ++ packets_in groups

-- tile-parts with these packets, each with none, one or more
abbrev pub AreFilled : List ℕ → Packets → ℕ → List Body → List (List PacketName) → Type 0
AreFilled b ps number [] [] = Unit {0}
AreFilled b ps number [] (names ∷ groups) = ⊥
AreFilled b ps number (body ∷ bodies) [] = ⊥
AreFilled b ps number (body ∷ bodies) (names ∷ groups) =
    (window b body ≡ bytes_from ps number names) × (body.length ≡ length (bytes_from ps number names)) × AreFilled b ps (number + length names) bodies groups

-- a tile's data are its packets in the order of its progression entries, cut into tile-parts between them, each header in its place
pub record IsLaid (b : List ℕ) (s : Stream) (t : ℕ) (ps : Packets) (groups : List (List PacketName)) : Type 0 where
  pub in_place : (tile_at s t).heads ≡ None
  pub order : IsListOf s t (packets_in groups)
  pub written : AreWritten s t ps
  pub filled : AreFilled b ps 0 (tile_at s t).bodies groups

-- a packet as it is cut off again
abbrev pub cut_at : Packets → PacketName → Cut
cut_at ps p = record {
  name = p;
  count = length (packet_bytes 0 (ps.written p));
  used = length (ps.written p).header;
  parts = (ps.written p).parts;
  bytes = (ps.written p).bytes;
  after = ps.before (next_layer p);
}

abbrev pub cuts_at : Packets → List PacketName → List Cut
cuts_at ps list = map (cut_at ps) list

-- the blocks of all tiles, as such packets tell of them
abbrev pub laid_in : Stream → (ℕ → Packets) → (ℕ → List (List PacketName)) → ℕ → List Block
laid_in s packets groups t = blocks_of_tile s (geometry s t) (founds_of (geometry s t) (cuts_at (packets t) (packets_in (groups t))))

unfoldable pub laid_blocks : Stream → (ℕ → Packets) → (ℕ → List (List PacketName)) → List Block
laid_blocks s packets groups = joined (laid_in s packets groups) 0 (tile_number s.siz)
