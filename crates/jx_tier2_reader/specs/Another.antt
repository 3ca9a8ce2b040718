-- Another stream that has the same blocks, as where packets are sent in another order, or precincts are others.
use Rattle.std.specs.Prelude.{◌≡◌, ◌≤◌}
use Rattle.jx_base.specs.declared.names.BlockName.{BlockName}
use Rattle.jx_base.specs.declared.names.Rect.{Rect}
use Rattle.jx_geom.specs.Rects.{block_rect}
use Rattle.jx_geom.specs.Geometry.{rect_of_tile, shape_of}
use Rattle.jx_geom.specs.Numbering.{IsBlock, block_number}
use Rattle.jx_codestream.specs.declared.Stream.{Stream}
use Rattle.jx_codestream.specs.First.{canvas_of}
use Rattle.jx_codestream.specs.Params.{planes_at}
use Rattle.jx_codestream.specs.Shapes.{geometry, shapes_of, layers_of, style_of}
use Rattle.jx_tile.specs.Totals.{block_total}

abbrev pub rect_in : Stream → BlockName → Rect
rect_in s n = block_rect (rect_of_tile (geometry s n.tile)) (shape_of (geometry s n.tile) n.comp) n.res n.band n.index

-- a block of the other is one of this, with the same number, rect, planes and style, and no fewer layers
pub record HasSameBlock (s other : Stream) (n : BlockName) : Type 0 where
  pub there : IsBlock (canvas_of s.siz) (shapes_of s) n
  pub number : block_number (canvas_of s.siz) (shapes_of s) n ≡ block_number (canvas_of other.siz) (shapes_of other) n
  pub rect : rect_in s n ≡ rect_in other n
  pub planes : planes_at s n.tile n.comp n.res n.band ≡ planes_at other n.tile n.comp n.res n.band
  pub style : style_of s n.tile n.comp ≡ style_of other n.tile n.comp
  pub layers : layers_of s n.tile ≤ layers_of other n.tile

pub record HaveSameBlocks (s other : Stream) : Type 0 where
  pub all : block_total s ≡ block_total other
  pub each : (n : BlockName) → IsBlock (canvas_of other.siz) (shapes_of other) n → HasSameBlock s other n
