-- The code-blocks of a tile and their pieces, joined over the layers (ITU-T T.800, B.7 and B.10).
use Rattle.std.specs.Prelude.{ℕ, ◌+◌, ◌==◌, List, [], ◌∷◌, length, map, take, drop, Option, None, Some, sum_by, slice_index_or}
use Rattle.std.specs.List.{filter, flat_map}
use Rattle.jx_base.specs.declared.names.Band.{Band}
use Rattle.jx_base.specs.declared.names.BlockName.{BlockName}
use Rattle.jx_base.specs.declared.pieces.Block.{Block}
use Rattle.jx_base.specs.Pieces.{PieceValue}
use Rattle.jx_geom.specs.Rects.{block_rect}
use Rattle.jx_geom.specs.Geometry.{Geometry, shape_of, rect_of_tile, blocks_in}
use Rattle.jx_geom.specs.Numbering.{number_in_tile}
use Rattle.jx_base.specs.Places.{size_of}
use Rattle.jx_packet_header.specs.declared.HeaderPart.{HeaderPart}
use Rattle.jx_packet_header.specs.Packet.{State, unknown_block}
use Rattle.jx_packet_header.specs.Precinct.{all_blocks}
use Rattle.jx_progression.specs.declared.names.PacketName.{PacketName}
use Rattle.jx_codestream.specs.declared.Stream.{Stream}
use Rattle.jx_codestream.specs.Params.{planes_at}
use Rattle.jx_codestream.specs.Shapes.{style_of}
use Rattle.jx_geom.specs.Precincts.{leaf_number}
use Rattle.jx_tier2_reader.specs.Cuts.{Cut}
use Rattle.jx_base.specs.Joined.{joined}
use Rattle.jx_base.specs.Bands.{bands_at}

-- a piece, with its block's number in the tile and the zero planes that were told of the block
pub record FoundPiece : Type 0 where
  pub number : ℕ
  pub zero : ℕ
  pub piece : PieceValue

-- the zero planes of a block that a packet has included
abbrev pub told_zero : Option ℕ → ℕ
told_zero None = 0
told_zero (Some z) = z

abbrev pub zero_in : State → ℕ → ℕ
zero_in k j = told_zero (slice_index_or (all_blocks k.bands) j unknown_block).zero

-- the pieces of a packet, whose coded bytes stand one after another
abbrev pub founds_from : Geometry → PacketName → State → List ℕ → List HeaderPart → List FoundPiece
founds_from g p k bytes [] = []
founds_from g p k bytes (part ∷ parts) =
    record {
      number = leaf_number g p.comp p.res p.precinct part.block;
      zero = zero_in k part.block;
      piece = record { layer = p.layer; first = part.first; passes = part.passes; bytes = take part.length bytes };
    } ∷ founds_from g p k (drop part.length bytes) parts

abbrev pub founds_in : Geometry → Cut → List FoundPiece
founds_in g c = founds_from g c.name c.after c.bytes c.parts

-- those of packets
unfoldable pub founds_of : Geometry → List Cut → List FoundPiece
founds_of g cuts = flat_map (founds_in g) cuts

-- those of one block
unfoldable pub own_founds : ℕ → List FoundPiece → List FoundPiece
own_founds i founds = filter (λ (f : FoundPiece). f.number == i) founds

abbrev pub pieces_in : List FoundPiece → List PieceValue
pieces_in founds = map (λ (f : FoundPiece). f.piece) founds

abbrev pub passes_in : List FoundPiece → ℕ
passes_in founds = sum_by (λ (f : FoundPiece). f.piece.passes) founds

-- the zero planes that the first of them tells; all of the planes where there is none
abbrev pub zero_from : ℕ → List FoundPiece → ℕ
zero_from planes [] = planes
zero_from planes (f ∷ founds) = f.zero

-- a block that has these pieces
abbrev pub block_with : Stream → Geometry → BlockName → List FoundPiece → Block
block_with s g n founds = record {
  name = n;
  rect = block_rect (rect_of_tile g) (shape_of g n.comp) n.res n.band n.index;
  planes = planes_at s g.tile n.comp n.res n.band;
  zero = zero_from (planes_at s g.tile n.comp n.res n.band) founds;
  passes = passes_in founds;
  style = record { bits = style_of s g.tile n.comp };
  pieces = pieces_in founds;
}

-- the block of a name in a tile whose packets have these pieces
abbrev pub block_of : Stream → Geometry → List FoundPiece → BlockName → Block
block_of s g founds n = block_with s g n (own_founds (number_in_tile g n) founds)

-- the blocks of a band, of a resolution, of a component and of the tile, in the order of their numbers
abbrev pub one_block : Stream → Geometry → List FoundPiece → ℕ → ℕ → Band → ℕ → List Block
one_block s g founds c r b i = block_of s g founds (record { tile = g.tile; comp = c; res = r; band = b; index = i }) ∷ []

unfoldable pub blocks_of_band : Stream → Geometry → List FoundPiece → ℕ → ℕ → Band → List Block
blocks_of_band s g founds c r b = joined (one_block s g founds c r b) 0 (size_of (blocks_in g c r b))

unfoldable pub blocks_of_resolution : Stream → Geometry → List FoundPiece → ℕ → ℕ → List Block
blocks_of_resolution s g founds c r = flat_map (blocks_of_band s g founds c r) (bands_at r)

unfoldable pub blocks_of_component : Stream → Geometry → List FoundPiece → ℕ → List Block
blocks_of_component s g founds c = joined (blocks_of_resolution s g founds c) 0 ((shape_of g c).levels + 1)

unfoldable pub blocks_of_tile : Stream → Geometry → List FoundPiece → List Block
blocks_of_tile s g founds = joined (blocks_of_component s g founds) 0 (length g.shapes)
