-- The precincts of a tile one after another, and the code-blocks of each (ITU-T T.800, B.6, B.7 and B.10).
use Rattle.std.specs.Prelude.{ℕ, ◌+◌, ◌-◌, ◌<◌, ◌≡◌, ◌⊎◌, nat_lt, List, [], ◌∷◌, take, if◌then◌else◌}
use Rattle.jx_base.specs.declared.names.Rect.{Rect}
use Rattle.jx_base.specs.declared.names.Band.{Band}
use Rattle.jx_base.specs.declared.names.Band.TheVariants.{LL}
use Rattle.jx_base.specs.declared.names.BlockName.{BlockName}
use Rattle.jx_base.specs.Bands.{bands_at}
use Rattle.jx_base.specs.Joined.{sum_below}
use Rattle.jx_base.specs.Places.{size_of, column_at, row_at, number_at}
use Rattle.jx_geom.specs.Rects.{precinct_blocks}
use Rattle.jx_geom.specs.Counts.{precinct_count, tile_precincts}
use Rattle.jx_geom.specs.Geometry.{Geometry, HasResolution, shape_of, rect_of_tile, blocks_in, precincts_in}
use Rattle.jx_geom.specs.Numbering.{number_in_tile}

-- a precinct is there
pub record HasPrecinct (g : Geometry) (c r k : ℕ) : Type 0 where
  pub resolution : HasResolution g c r
  pub precinct : k < size_of (precincts_in g c r)

-- precinct k of resolution r of component c comes before precinct m of resolution q of component d
abbrev pub PrecinctBefore : (c r k d q m : ℕ) → Type 0
PrecinctBefore c r k d q m = (c < d) ⊎ ((c ≡ d) × ((r < q) ⊎ ((r ≡ q) × (k < m))))

-- the number of a precinct among those of its tile: the count of those before it
unfoldable pub precinct_number : Geometry → ℕ → ℕ → ℕ → ℕ
precinct_number g c r k =
    tile_precincts (rect_of_tile g) (take c g.shapes) + (sum_below (precinct_count (rect_of_tile g) (shape_of g c)) r + k)

-- the code-blocks of a precinct in a band, as cells
abbrev pub cells_at : Geometry → ℕ → ℕ → ℕ → Band → Rect
cells_at g c r k b = precinct_blocks (rect_of_tile g) (shape_of g c) r b k

-- B.10: a precinct's code-blocks, its leaves, are counted over its bands in order, row by row within a band.
-- How many there are, in some bands and in all
abbrev pub leaves_in : Geometry → ℕ → ℕ → ℕ → List Band → ℕ
leaves_in g c r k [] = 0
leaves_in g c r k (b ∷ bands) = size_of (cells_at g c r k b) + leaves_in g c r k bands

abbrev pub leaves : Geometry → ℕ → ℕ → ℕ → ℕ
leaves g c r k = leaves_in g c r k (bands_at r)

-- the index in its band of the j-th block of a precinct's part of the band
abbrev pub leaf_index : Geometry → ℕ → ℕ → ℕ → Band → ℕ → ℕ
leaf_index g c r k b j = number_at (blocks_in g c r b) (column_at (cells_at g c r k b) j) (row_at (cells_at g c r k b) j)

-- the name of leaf j
abbrev pub name_from : Geometry → ℕ → ℕ → ℕ → List Band → ℕ → BlockName
name_from g c r k [] j = record { tile = g.tile; comp = c; res = r; band = LL; index = 0 }
name_from g c r k (b ∷ bands) j =
    if nat_lt j (size_of (cells_at g c r k b)) then record { tile = g.tile; comp = c; res = r; band = b; index = leaf_index g c r k b j }
    else name_from g c r k bands (j - size_of (cells_at g c r k b))

unfoldable pub leaf_name : Geometry → ℕ → ℕ → ℕ → ℕ → BlockName
leaf_name g c r k j = name_from g c r k (bands_at r) j

-- and its number in the tile
unfoldable pub leaf_number : Geometry → ℕ → ℕ → ℕ → ℕ → ℕ
leaf_number g c r k j = number_in_tile g (leaf_name g c r k j)

-- the block is leaf j of precinct k of its resolution
pub record IsLeaf (g : Geometry) (k j : ℕ) (n : BlockName) : Type 0 where
  pub precinct : HasPrecinct g n.comp n.res k
  pub leaf : j < leaves g n.comp n.res k
  pub name : leaf_name g n.comp n.res k j ≡ n
