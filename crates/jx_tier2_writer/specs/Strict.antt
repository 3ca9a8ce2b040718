-- What a written file keeps to where a reader doesn't ask for it (ITU-T T.800, A.4.2, A.7.3 and A.8): a tile's tile-parts stand
-- together, in the order of the tiles, and each tells how many there are; SOP and EPH stand with each packet exactly where the
-- tile's COD announces them; PLT segments stand where they are asked for, numbered from 0 in each tile-part, and tell the lengths of
-- just its packets, each whole in one segment and in as few bytes as it has; the index of all tile-parts ends the main header where it
-- is asked for (A.7.1); EOC ends the file.
use Rattle.std.specs.Prelude.{◌≡◌, ◌<◌, ◌+◌, ℕ, Bool, true, false, List, [], ◌∷◌, ◌++◌, length, map}
use Rattle.std.specs.List.{All, filter}
use Rattle.jx_base.specs.Joined.{joined}
use Rattle.jx_marker.specs.declared.Segment.{Segment}
use Rattle.jx_progression.specs.declared.names.PacketName.{PacketName}
use Rattle.jx_codestream.specs.declared.Stream.{Stream}
use Rattle.jx_codestream.specs.First.{tile_number}
use Rattle.jx_codestream.specs.Spells.{TilePart, file_bytes, part_bytes}
use Rattle.jx_tier2_reader.specs.Written.{Packets, IsLaid, bytes_from}
use Rattle.jx_options.specs.declared.Marks.{Marks}
use Rattle.jx_tier2_writer.specs.Index.{index_of}
use Rattle.jx_tier2_writer.specs.Lengths.{numbered}
use Rattle.jx_tier2_writer.specs.Told.{AreLengths, flat, lengths_from}
use Rattle.jx_tier2_writer.specs.Ready.{cod_at}
use Rattle.jx_tier2_writer.specs.TileParts.{packet_length}
use Rattle.jx_plan.specs.Asides.{is_plt}

-- a tile-part of a tile with these packets, of which the first has a number in its tile
pub record IsStrictPart (plt : Bool) (comps t count part : ℕ) (packets : Packets) (number : ℕ) (names : List PacketName) (p : TilePart) : Type 0 where
  pub tile : p.sot.tile ≡ t
  pub part_is : p.sot.part ≡ part
  pub parts : p.sot.parts ≡ count
  pub psot : p.sot.psot ≡ length (part_bytes comps p)
  -- SOP, where it stands, has the packet's number in its tile modulo 65,536
  pub body : p.body ≡ bytes_from packets number names
  -- the PLT segments, numbered from 0, with what stands behind their numbers
  pub held : List (List ℕ)
  pub segments : filter is_plt p.header ≡ numbered 0 held
  pub lengths : plt ≡ true → lengths_from 0 (flat held) ≡ map (packet_length packets) names
  pub whole : All AreLengths held
  pub none : plt ≡ false → held ≡ []
  -- nothing else stands in the header of a later tile-part
  pub later : 0 < part → p.header ≡ numbered 0 held

abbrev pub AreStrictParts : Bool → ℕ → ℕ → ℕ → ℕ → Packets → ℕ → List (List PacketName) → List TilePart → Type 0
AreStrictParts plt comps t count part packets number [] [] = Unit {0}
AreStrictParts plt comps t count part packets number [] (p ∷ ps) = ⊥
AreStrictParts plt comps t count part packets number (names ∷ groups) [] = ⊥
AreStrictParts plt comps t count part packets number (names ∷ groups) (p ∷ ps) =
    IsStrictPart plt comps t count part packets number names p × AreStrictParts plt comps t count (part + 1) packets (number + length names) groups ps

-- a tile
pub record IsStrictTile (plt : Bool) (b : List ℕ) (s : Stream) (t : ℕ) (parts : List TilePart) : Type 0 where
  pub packets : Packets
  pub groups : List (List PacketName)
  -- these are the packets that stand in the file
  pub laid : IsLaid b s t packets groups
  pub sop : (p : PacketName) → (packets.written p).sop ≡ (cod_at s t).sop
  pub eph : (p : PacketName) → (packets.written p).eph ≡ (cod_at s t).eph
  pub each : AreStrictParts plt (length s.siz.comps) t (length parts) 0 packets 0 groups parts

-- the whole file, of which this stream is read
pub record IsStrict (m : Marks) (b : List ℕ) (s : Stream) : Type 0 where
  pub parts : ℕ → List TilePart
  pub bytes : b ≡ file_bytes s.siz s.main (joined parts 0 (tile_number s.siz)) []
  pub tiles : (t : ℕ) → t < tile_number s.siz → IsStrictTile m.plt b s t (parts t)
  -- the main header's segments before the index, and the index of just these tile-parts, where it is asked
  pub front : List Segment
  pub main : s.main ≡ front ++ index_of m (joined parts 0 (tile_number s.siz))
