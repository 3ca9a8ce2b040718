-- The resolutions of a tile in order, each with what stands before it: its precincts and code-blocks have their numbers from there on.
use Rattle.std.specs.Prelude.{ℕ, ◌+◌, ◌<◌, ◌≡◌, ◌==◌, ◌⊎◌, List, [], ◌∷◌, length, take, slice_index_or, if◌then◌else◌}
use Rattle.jx_base.specs.declared.names.Rect.{Rect}
use Rattle.jx_base.specs.Joined.{joined, sum_below}
use Rattle.jx_base.specs.Places.{size_of}
use Rattle.jx_geom.specs.declared.shape.CompShape.{CompShape}
use Rattle.jx_geom.specs.declared.table.Resolution.{Resolution}
use Rattle.jx_geom.specs.Rects.{component_rect}
use Rattle.jx_geom.specs.Counts.{precinct_count, resolution_blocks, tile_blocks, tile_precincts}
use Rattle.jx_geom.specs.Geometry.{Geometry, no_shape, rect_of_tile}

-- a resolution of a component that stands behind so many precincts and blocks
abbrev pub resolution_behind : Rect → CompShape → ℕ → ℕ → ℕ → ℕ → Resolution
resolution_behind tile s c precincts blocks r = record {
  comp = c;
  res = r;
  precincts = precinct_count tile s r;
  precincts_before = precincts + sum_below (precinct_count tile s) r;
  blocks_before = blocks + sum_below (resolution_blocks tile s) r;
}

-- those of a component that has a place
abbrev pub one_behind : Rect → CompShape → ℕ → ℕ → ℕ → ℕ → List Resolution
one_behind tile s c precincts blocks r = resolution_behind tile s c precincts blocks r ∷ []

unfoldable pub resolutions_behind : Rect → CompShape → ℕ → ℕ → ℕ → List Resolution
resolutions_behind tile s c precincts blocks =
    if size_of (component_rect tile s) == 0 then [] else joined (one_behind tile s c precincts blocks) 0 (s.levels + 1)

-- in a tile of these shapes
unfoldable pub resolution_at : Rect → List CompShape → ℕ → ℕ → Resolution
resolution_at tile shapes c r =
    resolution_behind tile (slice_index_or shapes c no_shape) c (tile_precincts tile (take c shapes)) (tile_blocks tile (take c shapes)) r

abbrev pub component_resolutions : Rect → List CompShape → ℕ → List Resolution
component_resolutions tile shapes c =
    resolutions_behind tile (slice_index_or shapes c no_shape) c (tile_precincts tile (take c shapes)) (tile_blocks tile (take c shapes))

unfoldable pub all_resolutions : Rect → List CompShape → List Resolution
all_resolutions tile shapes = joined (component_resolutions tile shapes) 0 (length shapes)

abbrev pub resolutions_of : Geometry → List Resolution
resolutions_of g = all_resolutions (rect_of_tile g) g.shapes

-- how many come before those of a component
abbrev pub place_of : Rect → List CompShape → ℕ → ℕ
place_of tile shapes c = length (joined (component_resolutions tile shapes) 0 c)

abbrev pub one_place : Rect → List CompShape → ℕ → List ℕ
one_place tile shapes c = place_of tile shapes c ∷ []

unfoldable pub all_places : Rect → List CompShape → List ℕ
all_places tile shapes = joined (one_place tile shapes) 0 (length shapes)

-- one comes before another in the tile
abbrev pub ResolutionBefore : Resolution → Resolution → Type 0
ResolutionBefore a b = (a.comp < b.comp) ⊎ ((a.comp ≡ b.comp) × (a.res < b.res))
