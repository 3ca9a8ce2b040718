-- Tiles, tile-components, resolutions, bands, precincts and code-blocks as sets of places.
use Rattle.std.specs.Prelude.{ℕ, ◌+◌, ◌-◌, ◌*◌, ◌/◌, ◌%◌, ◌^◌, ◌≡◌}
use Rattle.jx_base.specs.declared.names.Rect.{Rect}
use Rattle.jx_base.specs.declared.names.Band.{Band}
use Rattle.jx_base.specs.Places.{InRect, column_at, row_at, rect_of, span_of}
use Rattle.jx_geom.specs.declared.shape.Canvas.{Canvas}
use Rattle.jx_geom.specs.declared.shape.CompShape.{CompShape}
use Rattle.jx_geom.specs.Ranges.{exponent_across, exponent_down}
use Rattle.jx_geom.specs.Rects.{tiles_across, off_across, off_down, band_level, part_across, part_down, block_across, block_down, precinct_cells, block_cells}

-- B.2: the picture on the reference grid
abbrev pub InPicture : Canvas → ℕ → ℕ → Type 0
InPicture c x y = InRect (rect_of (span_of c.x0 c.x1) (span_of c.y0 c.y1)) x y

-- B.3: the tile of number t: the picture's places in one cell of the grid of tiles, anchored at its offset
pub record InTile (c : Canvas) (t x y : ℕ) : Type 0 where
  pub place : InPicture c x y
  pub column : (x - c.tx) / c.tw ≡ t % tiles_across c
  pub row : (y - c.ty) / c.th ≡ t / tiles_across c

-- B.2: a sample of a component stands at every dx-th column and dy-th row of the reference grid
abbrev pub InComponent : Rect → CompShape → ℕ → ℕ → Type 0
InComponent tile s x y = InRect tile (x * s.dx) (y * s.dy)

-- B.5: a place of resolution r stands for every 2 ^ (NL - r)-th sample
abbrev pub InResolution : Rect → CompShape → ℕ → ℕ → ℕ → Type 0
InResolution tile s r x y = InComponent tile s (x * 2 ^ (s.levels - r)) (y * 2 ^ (s.levels - r))

-- B.5: a place of a band of level n stands for every 2 ^ n-th sample, from 2 ^ (n - 1) on where it is the high one
abbrev pub InBand : Rect → CompShape → ℕ → Band → ℕ → ℕ → Type 0
InBand tile s r b x y =
    InComponent tile s (x * 2 ^ band_level s r b + off_across b * 2 ^ (band_level s r b - 1))
    (y * 2 ^ band_level s r b + off_down b * 2 ^ (band_level s r b - 1))

-- the place is in the cell of column u and row v, of cells of 2 ^ wide by 2 ^ high places anchored at 0
pub record InCell (wide high u v x y : ℕ) : Type 0 where
  pub column : x / 2 ^ wide ≡ u
  pub row : y / 2 ^ high ≡ v

-- B.6: the precinct of number k: a resolution's places in one cell
pub record InPrecinct (tile : Rect) (s : CompShape) (r k x y : ℕ) : Type 0 where
  pub place : InResolution tile s r x y
  pub cell : InCell (exponent_across s r) (exponent_down s r) (column_at (precinct_cells tile s r) k) (row_at (precinct_cells tile s r) k) x y

-- B.6: its places in a band: the cell of the same column and row, of half the size above resolution 0
pub record InPart (tile : Rect) (s : CompShape) (r : ℕ) (b : Band) (k x y : ℕ) : Type 0 where
  pub place : InBand tile s r b x y
  pub cell : InCell (part_across s r) (part_down s r) (column_at (precinct_cells tile s r) k) (row_at (precinct_cells tile s r) k) x y

-- B.7: the code-block of number i: a band's places in one cell
pub record InBlock (tile : Rect) (s : CompShape) (r : ℕ) (b : Band) (i x y : ℕ) : Type 0 where
  pub place : InBand tile s r b x y
  pub cell : InCell (block_across s r) (block_down s r) (column_at (block_cells tile s r b) i) (row_at (block_cells tile s r b) i) x y

-- a set that has a place
abbrev pub HasPlace : (ℕ → ℕ → Type 0) → Type 0
HasPlace P = (x : ℕ) × (y : ℕ) × P x y
