-- The rects of Annex B: both directions together.
use Rattle.std.specs.Prelude.{ℕ, ◌+◌, ◌-◌, ◌*◌, ◌/◌, ◌%◌, ◌^◌, min}
use Rattle.jx_base.specs.declared.names.Rect.{Rect}
use Rattle.jx_base.specs.declared.names.Band.{Band}
use Rattle.jx_base.specs.declared.names.Band.TheVariants.{LL, HL, LH, HH}
use Rattle.jx_base.specs.Places.{rect_of, column_at, row_at}
use Rattle.jx_geom.specs.declared.shape.Canvas.{Canvas}
use Rattle.jx_geom.specs.declared.shape.CompShape.{CompShape}
use Rattle.jx_geom.specs.Ranges.{exponent_across, exponent_down}
use Rattle.jx_geom.specs.Spans.{tiles_along, tile_span, scaled, band_span, cells, cut, reference_of}

abbrev pub tiles_across : Canvas → ℕ
tiles_across c = tiles_along c.x1 c.tx c.tw

abbrev pub tiles_down : Canvas → ℕ
tiles_down c = tiles_along c.y1 c.ty c.th

-- B.3: the tile of number t, row by row
unfoldable pub tile_rect : Canvas → ℕ → Rect
tile_rect c t = rect_of (tile_span c.x0 c.x1 c.tx c.tw (t % tiles_across c)) (tile_span c.y0 c.y1 c.ty c.th (t / tiles_across c))

-- B.3, equation B-12: the tile-component, from the tile's rect
unfoldable pub component_rect : Rect → CompShape → Rect
component_rect tile s = rect_of (scaled tile.x s.dx) (scaled tile.y s.dy)

-- B.5, equation B-14: resolution r of the tile-component
unfoldable pub resolution_rect : Rect → CompShape → ℕ → Rect
resolution_rect tile s r =
    rect_of (scaled (component_rect tile s).x (2 ^ (s.levels - r))) (scaled (component_rect tile s).y (2 ^ (s.levels - r)))

-- B.5: whether a band is the high one across, and down
abbrev pub off_across : Band → ℕ
off_across LL = 0
off_across HL = 1
off_across LH = 0
off_across HH = 1

abbrev pub off_down : Band → ℕ
off_down LL = 0
off_down HL = 0
off_down LH = 1
off_down HH = 1

-- B.5: the level of a resolution's bands
abbrev pub band_level : CompShape → ℕ → Band → ℕ
band_level s r LL = s.levels
band_level s r HL = s.levels - r + 1
band_level s r LH = s.levels - r + 1
band_level s r HH = s.levels - r + 1

-- B.5, equation B-15
unfoldable pub band_rect : Rect → CompShape → ℕ → Band → Rect
band_rect tile s r b =
    rect_of (band_span (component_rect tile s).x (band_level s r b) (off_across b))
    (band_span (component_rect tile s).y (band_level s r b) (off_down b))

-- B.6: the precincts of a resolution, as cells of 2 ^ PPx by 2 ^ PPy places
unfoldable pub precinct_cells : Rect → CompShape → ℕ → Rect
precinct_cells tile s r =
    rect_of (cells (resolution_rect tile s r).x (2 ^ exponent_across s r)) (cells (resolution_rect tile s r).y (2 ^ exponent_down s r))

-- B.7, equations B-17 and B-18: a precinct's exponents in a band, half the size above resolution 0
abbrev pub part_across : CompShape → ℕ → ℕ
part_across s r = exponent_across s r - min r 1

abbrev pub part_down : CompShape → ℕ → ℕ
part_down s r = exponent_down s r - min r 1

-- and a code-block's
abbrev pub block_across : CompShape → ℕ → ℕ
block_across s r = min s.xcb (part_across s r)

abbrev pub block_down : CompShape → ℕ → ℕ
block_down s r = min s.ycb (part_down s r)

-- B.7: the code-blocks of a band, as cells
unfoldable pub block_cells : Rect → CompShape → ℕ → Band → Rect
block_cells tile s r b =
    rect_of (cells (band_rect tile s r b).x (2 ^ block_across s r)) (cells (band_rect tile s r b).y (2 ^ block_down s r))

-- B.6: the part of a band that lies in the precinct of number k
unfoldable pub precinct_part : Rect → CompShape → ℕ → Band → ℕ → Rect
precinct_part tile s r b k =
    rect_of (cut (band_rect tile s r b).x (2 ^ part_across s r) (column_at (precinct_cells tile s r) k))
    (cut (band_rect tile s r b).y (2 ^ part_down s r) (row_at (precinct_cells tile s r) k))

-- B.7: its code-blocks, as cells
unfoldable pub precinct_blocks : Rect → CompShape → ℕ → Band → ℕ → Rect
precinct_blocks tile s r b k =
    rect_of (cells (precinct_part tile s r b k).x (2 ^ block_across s r)) (cells (precinct_part tile s r b k).y (2 ^ block_down s r))

-- B.7: the places of the code-block of number i in its band
unfoldable pub block_rect : Rect → CompShape → ℕ → Band → ℕ → Rect
block_rect tile s r b i =
    rect_of (cut (band_rect tile s r b).x (2 ^ block_across s r) (column_at (block_cells tile s r b) i))
    (cut (band_rect tile s r b).y (2 ^ block_down s r) (row_at (block_cells tile s r b) i))

-- B.12.1.3: where a precinct column and a precinct row stand on the reference grid
unfoldable pub precinct_column_point : Rect → CompShape → ℕ → ℕ → ℕ
precinct_column_point tile s r n =
    reference_of tile.x.low (resolution_rect tile s r).x.low (2 ^ exponent_across s r) (2 ^ (s.levels - r) * s.dx) n

unfoldable pub precinct_row_point : Rect → CompShape → ℕ → ℕ → ℕ
precinct_row_point tile s r n =
    reference_of tile.y.low (resolution_rect tile s r).y.low (2 ^ exponent_down s r) (2 ^ (s.levels - r) * s.dy) n
