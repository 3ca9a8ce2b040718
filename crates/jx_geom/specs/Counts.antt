-- How many blocks and precincts there are.
use Rattle.std.specs.Prelude.{ℕ, ◌+◌, ◌*◌, List, sum_by, ◌==◌, if◌then◌else◌}
use Rattle.jx_base.specs.declared.names.Rect.{Rect}
use Rattle.jx_base.specs.declared.names.Band.{Band}
use Rattle.jx_base.specs.declared.names.Band.TheVariants.{LL, HL, LH, HH}
use Rattle.jx_base.specs.Places.{size_of}
use Rattle.jx_geom.specs.declared.shape.Canvas.{Canvas}
use Rattle.jx_geom.specs.declared.shape.CompShape.{CompShape}
use Rattle.jx_geom.specs.Rects.{tiles_across, tiles_down, precinct_cells, block_cells}
use Rattle.jx_base.specs.Joined.{sum_below}

-- B.3, equation B-5: all tiles
abbrev pub tile_count : Canvas → ℕ
tile_count c = tiles_across c * tiles_down c

-- B.6: the precincts of a resolution
abbrev pub precinct_count : Rect → CompShape → ℕ → ℕ
precinct_count tile s r = size_of (precinct_cells tile s r)

-- B.7: the blocks of a band
abbrev pub block_count : Rect → CompShape → ℕ → Band → ℕ
block_count tile s r b = size_of (block_cells tile s r b)

-- and of the bands of a resolution that come before one
abbrev pub blocks_before_band : Rect → CompShape → ℕ → Band → ℕ
blocks_before_band tile s r LL = 0
blocks_before_band tile s r HL = 0
blocks_before_band tile s r LH = block_count tile s r HL
blocks_before_band tile s r HH = block_count tile s r HL + block_count tile s r LH

-- and of a resolution
unfoldable pub resolution_blocks : Rect → CompShape → ℕ → ℕ
resolution_blocks tile s r =
    (if r == 0 then block_count tile s r LL else blocks_before_band tile s r HH + block_count tile s r HH)

-- of a tile-component
unfoldable pub component_blocks : Rect → CompShape → ℕ
component_blocks tile s = sum_below (resolution_blocks tile s) (s.levels + 1)

unfoldable pub component_precincts : Rect → CompShape → ℕ
component_precincts tile s = sum_below (precinct_count tile s) (s.levels + 1)

-- and of a tile with components of these shapes
abbrev pub tile_blocks : Rect → List CompShape → ℕ
tile_blocks tile shapes = sum_by (component_blocks tile) shapes

abbrev pub tile_precincts : Rect → List CompShape → ℕ
tile_precincts tile shapes = sum_by (component_precincts tile) shapes
