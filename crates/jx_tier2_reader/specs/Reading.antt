-- Inner: what is read of a packet, as a packet that was cut off, and pieces that can be put to their blocks.
use Rattle.std.specs.Prelude.{◌≡◌, ℕ, ◌+◌, ◌<◌, ◌≤◌, ◌^◌, List, [], length, Option, None, Some, slice_index_or}
use Rattle.std.specs.Borrow.{Bor}
use Rattle.std.specs.List.{All}
use Rattle.jx_base.specs.declared.pieces.Block.{Block}
use Rattle.jx_geom.specs.Geometry.{Geometry}
use Rattle.jx_packet_header.specs.declared.HeaderPart.{HeaderPart}
use Rattle.jx_packet_header.specs.Packet.{State}
use Rattle.jx_progression.specs.declared.names.PacketName.{PacketName}
use Rattle.jx_codestream.specs.declared.Body.{Body}
use Rattle.jx_codestream.specs.declared.Stream.{Stream}
use Rattle.jx_codestream.specs.First.{tile_number}
use Rattle.jx_tier2_reader.specs.declared.packet.Packet.{Packet}
use Rattle.jx_geom.specs.Precincts.{leaf_number}
use Rattle.jx_codestream.specs.Shapes.{geometry, tile_at}
use Rattle.jx_tier2_reader.specs.Data.{due}
use Rattle.jx_tier2_reader.specs.Cuts.{Cut, Left, AreCuts, names_of}
use Rattle.jx_tile.specs.Covered.{IsListOf, IsWhole}
use Rattle.jx_tier2_reader.specs.Gathered.{head_pieces, start}
use Rattle.jx_codestream.specs.InRange.{StreamInRange}
use Rattle.jx_tier2_reader.specs.InRange.{DataInRange, HeadsInRange}
use Rattle.jx_tile.specs.Totals.{totals_fault}
use Rattle.jx_tier2_reader.specs.Blocks.{FoundPiece, zero_in, founds_of, blocks_of_tile}
use Rattle.jx_tier2_reader.specs.Put.{put_all}
use Rattle.jx_base.specs.Limits.{most_bytes}

abbrev pub cut_of : PacketName → Packet → State → Cut
cut_of name p after = record { name = name; count = p.count; used = p.used; parts = p.parts.items; bytes = p.bytes.now; after = after }

-- each piece's block is there, and no block gets more passes than a number of 16 bits can say
pub record CanPut (blocks : List Block) (founds : List FoundPiece) : Type 0 where
  pub there : All (λ (f : FoundPiece). f.number < length blocks) founds
  pub few : All (λ (b : Block). b.passes < 2 ^ 16) (put_all blocks founds)

-- a block has room for so many passes
abbrev pub HasRoom : Option Block → ℕ → Type 0
HasRoom None passes = Unit {0}
HasRoom (Some block) passes = block.passes + passes < 2 ^ 16

-- the piece of a part
abbrev pub found_of : Geometry → PacketName → State → HeaderPart → List ℕ → FoundPiece
found_of g p k part bytes = record {
  number = leaf_number g p.comp p.res p.precinct part.block;
  zero = zero_in k part.block;
  piece = record { layer = p.layer; first = part.first; passes = part.passes; bytes = bytes };
}

-- a precinct that isn't there
abbrev pub no_state : State
no_state = record { style = 0; layer = 0; bands = [] }

abbrev pub state_at : List State → ℕ → State
state_at states i = slice_index_or states i no_state

-- the items that an optional slice has
abbrev pub seen : {X : Type 0} → Option (Bor (List X)) → Option (List X)
seen None = None
seen (Some slice) = Some slice.now

-- packed headers, where a tile has such, have so many bytes
abbrev pub HasBytes : Option (List ℕ) → ℕ → Type 0
HasBytes None count = Unit {0}
HasBytes (Some packed) count = count ≤ length packed

-- pieces that end before 2^32
abbrev pub AreShort : List Body → Type 0
AreShort pieces = All (λ (piece : Body). piece.at + piece.length < 2 ^ 32) pieces

-- data of tile-parts that lie in the file
abbrev pub AreInside : List ℕ → List Body → Type 0
AreInside b bodies = All (λ (body : Body). body.at + body.length ≤ length b) bodies

-- what is left lies in the file
pub record IsInside (b : List ℕ) (left : Left) : Type 0 where
  pub bodies : AreInside b left.bodies
  pub end : left.end ≤ length b

-- these packets of a tile were read, and their pieces put to its blocks
pub record IsFront (b : List ℕ) (s : Stream) (t : ℕ) (done : List PacketName) (left : Left) (blocks : List Block) : Type 0 where
  pub cuts : List Cut
  pub names : names_of cuts ≡ done
  pub mid : Left
  pub are : AreCuts b (geometry s t) 0 (start b s t) cuts mid
  pub due_are : due mid.bodies ≡ due left.bodies
  pub end_is : mid.end ≡ left.end
  pub packed_is : mid.packed ≡ left.packed
  pub states_are : mid.states ≡ left.states
  pub blocks_are : blocks ≡ put_all (blocks_of_tile s (geometry s t) []) (founds_of (geometry s t) cuts)

-- what a tile's packets are read by
pub record IsTask (b : List ℕ) (s : Stream) (g : Geometry) (list : List PacketName) : Type 0 where
  pub fits : length b ≤ most_bytes
  pub range : StreamInRange s
  pub totals : totals_fault s ≡ None
  pub below : g.tile < tile_number s.siz
  pub geometry_is : g ≡ geometry s g.tile
  pub order : IsListOf s g.tile list
  pub whole : IsWhole s g.tile
  pub bodies : DataInRange b (tile_at s g.tile).bodies
  pub heads : HeadsInRange b (head_pieces s g.tile)
