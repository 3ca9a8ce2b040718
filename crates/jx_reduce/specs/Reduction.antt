-- A codestream without the d highest resolutions of each tile-component (ITU-T T.800, A.5.1, A.6.1, A.6.2 and B.5): the subsampling factors
-- grow by 2 ^ d, COD and COC have d levels fewer and the precincts of the resolutions that are left, all else stays; the code-blocks are
-- those of these resolutions, in their order.
use Rattle.std.specs.Prelude.{ℕ, ◌+◌, ◌-◌, ◌*◌, ◌^◌, nat_le, Bool, List, map, take}
use Rattle.std.specs.List.{filter}
use Rattle.jx_base.specs.declared.pieces.Block.{Block}
use Rattle.jx_marker.specs.declared.CompSize.{CompSize}
use Rattle.jx_marker.specs.declared.Siz.{Siz}
use Rattle.jx_marker.specs.declared.Shape.{Shape}
use Rattle.jx_marker.specs.declared.Cod.{Cod}
use Rattle.jx_marker.specs.declared.Segment.{Segment}
use Rattle.jx_marker.specs.declared.Segment.TheVariants as segment
use Rattle.jx_codestream.specs.declared.Tile.{Tile}
use Rattle.jx_codestream.specs.declared.Stream.{Stream}
use Rattle.jx_codestream.specs.TileHeaders.{TileHeaders}
use Rattle.jx_codestream.specs.Params.{headers_at, params_in}

-- Table A.9
abbrev pub size_left : ℕ → CompSize → CompSize
size_left d size = record size { dx = size.dx * 2 ^ d; dy = size.dy * 2 ^ d }

abbrev pub siz_left : ℕ → Siz → Siz
siz_left d siz = record siz { comps = map (size_left d) siz.comps }

-- Tables A.15 and A.21: the bytes of precincts stand from resolution 0 up
abbrev pub shape_left : ℕ → Shape → Shape
shape_left d shape = record shape { levels = shape.levels - d; precincts = take (shape.levels - d + 1) shape.precincts }

abbrev pub cod_left : ℕ → Cod → Cod
cod_left d cod = record cod { shape = shape_left d cod.shape }

abbrev pub segment_left : ℕ → Segment → Segment
segment_left d (segment.Cod cod) = segment.Cod (cod_left d cod)
segment_left d (segment.Coc comp shape) = segment.Coc comp (shape_left d shape)
segment_left d s = s

abbrev pub tile_left : ℕ → Tile → Tile
tile_left d t = record t { header = map (segment_left d) t.header }

unfoldable pub stream_left : ℕ → Stream → Stream
stream_left d s = record {
  siz = siz_left d s.siz;
  main = map (segment_left d) s.main;
  tiles = map (tile_left d) s.tiles;
}

-- the block is of a resolution that is left, by the headers of its tile
abbrev pub is_left : TileHeaders → ℕ → Block → Bool
is_left h d b = nat_le (b.name.res + d) (params_in h b.name.comp).levels

unfoldable pub blocks_left : ℕ → Stream → List Block → List Block
blocks_left d s blocks = filter (λ (b : Block). is_left (headers_at s b.name.tile) d b) blocks
