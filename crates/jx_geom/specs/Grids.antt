-- The code-blocks of a band as one value, from which each block follows.
use Rattle.std.specs.Prelude.{ℕ, ◌≡◌, ◌<◌, ◌≤◌, ◌^◌}
use Rattle.jx_base.specs.declared.names.Rect.{Rect}
use Rattle.jx_base.specs.declared.names.Band.{Band}
use Rattle.jx_base.specs.Places.{rect_of, column_at, row_at, size_of}
use Rattle.jx_geom.specs.declared.shape.CompShape.{CompShape}
use Rattle.jx_geom.specs.Geometry.{Geometry, rect_of_tile, shape_of}
use Rattle.jx_geom.specs.Rects.{band_rect, block_cells, block_across, block_down}
use Rattle.jx_geom.specs.Spans.{cells, cut}
use Rattle.jx_base.specs.Limits.{most_blocks}

-- the places of a band, the cells of its blocks, and the exponents of a block's width and height
pub record GridValue : Type 0 where
  pub places : Rect
  pub cells : Rect
  pub across : ℕ
  pub down : ℕ

-- that of a band
abbrev pub grid_of : Rect → CompShape → ℕ → Band → GridValue
grid_of tile s r b = record { places = band_rect tile s r b; cells = block_cells tile s r b; across = block_across s r; down = block_down s r }

abbrev pub grid_in : Geometry → ℕ → ℕ → Band → GridValue
grid_in g c r b = grid_of (rect_of_tile g) (shape_of g c) r b

-- the cells are those of 2 ^ across by 2 ^ down places that have one of the rect's places
pub record AreCells (places grid : Rect) (across down : ℕ) : Type 0 where
  pub cells : grid ≡ rect_of (cells places.x (2 ^ across)) (cells places.y (2 ^ down))
  pub wide : across < 16
  pub high : down < 16

-- the part of the rect that lies in the cell of a number
abbrev pub cell_part : Rect → Rect → ℕ → ℕ → ℕ → Rect
cell_part places grid across down i = rect_of (cut places.x (2 ^ across) (column_at grid i)) (cut places.y (2 ^ down) (row_at grid i))

-- what every value keeps
pub record IsGrid (g : GridValue) : Type 0 where
  pub cells : AreCells g.places g.cells g.across g.down
  pub few : size_of g.cells ≤ most_blocks
