-- A tile's bytes, as they are put together from the blocks of that tile.
use Rattle.std.specs.Prelude.{◌≡◌, ◌<◌, ◌+◌, ℕ, List, length, map, slice_get}
use Rattle.jx_base.specs.declared.pieces.Block.{Block}
use Rattle.jx_geom.specs.Counts.{tile_blocks}
use Rattle.jx_geom.specs.Geometry.{rect_of_tile}
use Rattle.jx_geom.specs.Numbering.{blocks_below}
use Rattle.jx_codestream.specs.declared.Stream.{Stream}
use Rattle.jx_codestream.specs.First.{canvas_of}
use Rattle.jx_codestream.specs.Shapes.{geometry, shapes_of}
use Rattle.jx_codestream.specs.Spells.{TilePart, part_bytes}
use Rattle.jx_options.specs.declared.Marks.{Marks}
use Rattle.jx_tier2_writer.specs.Tile.{AreAtMost}
use Rattle.jx_tier2_writer.specs.TileParts.{AreTilePartsOf}

-- these are the blocks of a tile, among all of the codestream
pub record AreOwn (s : Stream) (t : ℕ) (blocks own : List Block) : Type 0 where
  pub all : length own ≡ tile_blocks (rect_of_tile (geometry s t)) (shapes_of s t)
  pub each : (i : ℕ) → i < length own → slice_get blocks (blocks_below (canvas_of s.siz) (shapes_of s) t + i) ≡ slice_get own i

-- a tile's tile-parts as bytes
pub record AreTileBytes (m : Marks) (s : Stream) (blocks : List Block) (t : ℕ) (bytes : List (List ℕ)) : Type 0 where
  pub parts : List TilePart
  pub are : AreTilePartsOf m s blocks t parts
  pub bytes_are : bytes ≡ map (part_bytes (length s.siz.comps)) parts

-- one of the tile's tile-parts has more than so many bytes
pub record HasMoreBytes (m : Marks) (s : Stream) (blocks : List Block) (t most : ℕ) : Type 0 where
  pub parts : List TilePart
  pub are : AreTilePartsOf m s blocks t parts
  pub long : AreAtMost most parts → ⊥
