-- The number of a block over the codestream: by tile, component, resolution, band and raster place, the
-- count of the blocks before it.
use Rattle.std.specs.Prelude.{ℕ, ◌+◌, ◌<◌, ◌≡◌, ◌⊎◌, List, take}
use Rattle.jx_base.specs.declared.names.Rect.{Rect}
use Rattle.jx_base.specs.declared.names.Band.{Band}
use Rattle.jx_base.specs.declared.names.Band.TheVariants.{LL, HL, LH, HH}
use Rattle.jx_base.specs.declared.names.BlockName.{BlockName}
use Rattle.jx_geom.specs.declared.shape.Canvas.{Canvas}
use Rattle.jx_geom.specs.declared.shape.CompShape.{CompShape}
use Rattle.jx_geom.specs.Rects.{tile_rect}
use Rattle.jx_geom.specs.Counts.{tile_count, tile_blocks, resolution_blocks, blocks_before_band}
use Rattle.jx_geom.specs.Geometry.{Geometry, HasBlock, shape_of, rect_of_tile}
use Rattle.jx_base.specs.Joined.{sum_below}

-- the order of the bands of a resolution
abbrev pub band_place : Band → ℕ
band_place LL = 0
band_place HL = 1
band_place LH = 2
band_place HH = 3

-- block a comes before block b of the same tile
abbrev pub ComesBefore : BlockName → BlockName → Type 0
ComesBefore a b =
    (a.comp < b.comp) ⊎ ((a.comp ≡ b.comp) × ((a.res < b.res) ⊎ ((a.res ≡ b.res)
    × ((band_place a.band < band_place b.band) ⊎ ((a.band ≡ b.band) × (a.index < b.index))))))

-- the blocks of a component before one of its blocks
abbrev pub number_in_component : Rect → CompShape → ℕ → Band → ℕ → ℕ
number_in_component tile s r b i = sum_below (resolution_blocks tile s) r + (blocks_before_band tile s r b + i)

-- those of a tile
unfoldable pub number_in_tile : Geometry → BlockName → ℕ
number_in_tile g n =
    tile_blocks (rect_of_tile g) (take n.comp g.shapes)
    + number_in_component (rect_of_tile g) (shape_of g n.comp) n.res n.band n.index

-- a tile's geometry, where each tile has components of its own shapes
abbrev pub geometry_of : Canvas → (ℕ → List CompShape) → ℕ → Geometry
geometry_of c shapes t = record { canvas = c; tile = t; shapes = shapes t }

-- the blocks of the tiles below one
abbrev pub blocks_below : Canvas → (ℕ → List CompShape) → ℕ → ℕ
blocks_below c shapes t = sum_below (λ n. tile_blocks (tile_rect c n) (shapes n)) t

-- and those of the codestream before one of its blocks
unfoldable pub block_number : Canvas → (ℕ → List CompShape) → BlockName → ℕ
block_number c shapes n = blocks_below c shapes n.tile + number_in_tile (geometry_of c shapes n.tile) n

-- all of the codestream
abbrev pub blocks_of_all : Canvas → (ℕ → List CompShape) → ℕ
blocks_of_all c shapes = blocks_below c shapes (tile_count c)

-- a block of the codestream
abbrev pub IsBlock : Canvas → (ℕ → List CompShape) → BlockName → Type 0
IsBlock c shapes n = (n.tile < tile_count c) × HasBlock (geometry_of c shapes n.tile) n
