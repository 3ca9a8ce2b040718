-- What contracts see of the geometry of one tile.
use Rattle.std.specs.Prelude.{ℕ, ◌<◌, ◌≤◌, ◌^◌, ◌≡◌, List, length, slice_index_or, []}
use Rattle.jx_base.specs.declared.names.Rect.{Rect}
use Rattle.jx_base.specs.declared.names.Band.{Band}
use Rattle.jx_base.specs.declared.names.BlockName.{BlockName}
use Rattle.jx_base.specs.Places.{column_at, row_at, size_of}
use Rattle.jx_geom.specs.declared.shape.Canvas.{Canvas}
use Rattle.jx_geom.specs.declared.shape.CompShape.{CompShape}
use Rattle.jx_geom.specs.Ranges.{CanvasInRange, ShapeInRange, HasBand}
use Rattle.jx_geom.specs.Rects.{component_rect, tile_rect, band_rect, block_cells, precinct_cells, precinct_column_point, precinct_row_point}
use Rattle.jx_geom.specs.Counts.{tile_count, tile_blocks, tile_precincts}
use Rattle.jx_base.specs.Limits.{most_blocks}

pub record Geometry : Type 0 where
  pub canvas : Canvas
  pub tile : ℕ
  pub shapes : List CompShape

-- a shape that stands in no geometry
abbrev pub no_shape : CompShape
no_shape = record { dx = 0; dy = 0; levels = 0; xcb = 0; ycb = 0; precincts = [] }

abbrev pub shape_of : Geometry → ℕ → CompShape
shape_of g c = slice_index_or g.shapes c no_shape

abbrev pub rect_of_tile : Geometry → Rect
rect_of_tile g = tile_rect g.canvas g.tile

-- the component is there, and the resolution too
pub record HasResolution (g : Geometry) (c r : ℕ) : Type 0 where
  pub component : c < length g.shapes
  pub level : r ≤ (shape_of g c).levels

-- each shape is within the ranges
abbrev pub ShapesInRange : List CompShape → Type 0
ShapesInRange shapes = (c : ℕ) → c < length shapes → ShapeInRange (slice_index_or shapes c no_shape)

-- the component has no place in a tile
abbrev pub LacksPlace : Rect → List CompShape → ℕ → Type 0
LacksPlace tile shapes c = size_of (component_rect tile (slice_index_or shapes c no_shape)) ≡ 0

-- limits 5 and 6, of which one tile takes no more than all
pub record WithinLimits (c : Canvas) (t : ℕ) (shapes : List CompShape) : Type 0 where
  pub blocks : tile_blocks (tile_rect c t) shapes ≤ most_blocks
  pub precincts : tile_precincts (tile_rect c t) shapes ≤ 2 ^ 22

-- what every geometry keeps; Table A.9: at most 16,384 components
pub record GeometryInRange (g : Geometry) : Type 0 where
  pub canvas : CanvasInRange g.canvas
  pub tile : g.tile < tile_count g.canvas
  pub few : length g.shapes ≤ 2 ^ 14
  pub shapes : ShapesInRange g.shapes
  pub limits : WithinLimits g.canvas g.tile g.shapes

-- the places of a band, and the cells of its blocks and of a resolution's precincts
abbrev pub band_in : Geometry → ℕ → ℕ → Band → Rect
band_in g c r b = band_rect (rect_of_tile g) (shape_of g c) r b

abbrev pub blocks_in : Geometry → ℕ → ℕ → Band → Rect
blocks_in g c r b = block_cells (rect_of_tile g) (shape_of g c) r b

abbrev pub precincts_in : Geometry → ℕ → ℕ → Rect
precincts_in g c r = precinct_cells (rect_of_tile g) (shape_of g c) r

-- B.12.1.3: where a precinct stands on the reference grid
abbrev pub reference_across : Geometry → ℕ → ℕ → ℕ → ℕ
reference_across g c r k = precinct_column_point (rect_of_tile g) (shape_of g c) r (column_at (precincts_in g c r) k)

abbrev pub reference_down : Geometry → ℕ → ℕ → ℕ → ℕ
reference_down g c r k = precinct_row_point (rect_of_tile g) (shape_of g c) r (row_at (precincts_in g c r) k)

-- the block of a name is there
pub record HasBlock (g : Geometry) (n : BlockName) : Type 0 where
  pub tile : n.tile ≡ g.tile
  pub resolution : HasResolution g n.comp n.res
  pub band : HasBand n.res n.band
  pub index : n.index < size_of (blocks_in g n.comp n.res n.band)
