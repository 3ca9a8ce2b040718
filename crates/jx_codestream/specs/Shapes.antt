-- The tiles of a stream as geometry (T.800, A.5, A.6 and B.3).
use Rattle.std.specs.Prelude.{◌≡◌, ◌<◌, ℕ, false, None, List, [], length, map, slice_index_or}
use Rattle.std.specs.List.{range_with_len}
use Rattle.jx_marker.specs.declared.CompSize.{CompSize}
use Rattle.jx_marker.specs.declared.Segment.{Segment}
use Rattle.jx_marker.specs.declared.Shape.{Shape}
use Rattle.jx_marker.specs.declared.Siz.{Siz}
use Rattle.jx_geom.specs.declared.shape.CompShape.{CompShape}
use Rattle.jx_geom.specs.Geometry.{Geometry, no_shape}
use Rattle.jx_codestream.specs.declared.Tile.{Tile}
use Rattle.jx_codestream.specs.declared.Stream.{Stream}
use Rattle.jx_codestream.specs.declared.Params.{Params}
use Rattle.jx_codestream.specs.TileHeaders.{TileHeaders}
use Rattle.jx_codestream.specs.Index.{has_named}
use Rattle.jx_codestream.specs.Params.{params_in, headers_at, precincts_of}
use Rattle.jx_codestream.specs.First.{canvas_of}

-- a component that isn't there
abbrev pub no_size : CompSize
no_size = record { ssiz = 0; dx = 1; dy = 1 }

abbrev pub size_in : Siz → ℕ → CompSize
size_in siz c = slice_index_or siz.comps c no_size

abbrev pub shape_from : CompSize → Params → CompShape
shape_from size p = record { dx = size.dx; dy = size.dy; levels = p.levels; xcb = p.xcb; ycb = p.ycb; precincts = p.precincts }

-- a component of this size that is divided as a COD or COC says
abbrev pub divided : CompSize → Shape → CompShape
divided size shape = record { dx = size.dx; dy = size.dy; levels = shape.levels; xcb = shape.xcb; ycb = shape.ycb; precincts = precincts_of shape.precincts }

-- a component of a picture that is divided as another one
abbrev pub sized : Siz → CompShape → ℕ → CompShape
sized siz shape c = record shape { dx = (size_in siz c).dx; dy = (size_in siz c).dy }

-- the shape of a component, by these headers
abbrev pub comp_shape : TileHeaders → ℕ → CompShape
comp_shape h c = shape_from (size_in h.siz c) (params_in h c)

-- the shapes of all components
unfoldable pub shapes_in : TileHeaders → List CompShape
shapes_in h = map (comp_shape h) (range_with_len 0 (length h.siz.comps))

-- a list has the shapes of all components but those that some segments, left to be looked at, name
pub record HasShapes (h : TileHeaders) (left : List Segment) (list : List CompShape) : Type 0 where
  pub size : length list ≡ length h.siz.comps
  pub each : (comp : ℕ) → comp < length h.siz.comps → has_named comp left ≡ false → slice_index_or list comp no_shape ≡ comp_shape h comp

-- the layers, and the style of a component's code-blocks (A.6.1)
abbrev pub layers_in : TileHeaders → ℕ
layers_in h = (params_in h 0).layers

abbrev pub style_in : TileHeaders → ℕ → ℕ
style_in h c = (params_in h c).style.bits

-- the same of a tile of a stream

abbrev pub size_of : Stream → ℕ → CompSize
size_of s c = size_in s.siz c

abbrev pub shape_in : Stream → ℕ → ℕ → CompShape
shape_in s t c = comp_shape (headers_at s t) c

abbrev pub shapes_of : Stream → ℕ → List CompShape
shapes_of s t = shapes_in (headers_at s t)

abbrev pub geometry : Stream → ℕ → Geometry
geometry s t = record { canvas = canvas_of s.siz; tile = t; shapes = shapes_of s t }

abbrev pub layers_of : Stream → ℕ → ℕ
layers_of s t = layers_in (headers_at s t)

abbrev pub style_of : Stream → ℕ → ℕ → ℕ
style_of s t c = style_in (headers_at s t) c

-- a tile that isn't there
abbrev pub no_tile : Tile
no_tile = record { place = 0; header = []; notes = []; has_plt = false; progressions = []; heads = None; bodies = [] }

abbrev pub tile_at : Stream → ℕ → Tile
tile_at s t = slice_index_or s.tiles t no_tile
