-- Whether a codestream can have the precincts that are asked (ITU-T T.800, A.6.1 and B.7).
use Rattle.std.specs.Prelude.{◌≡◌, ◌⊎◌, ◌<◌, ◌≤◌, ℕ, Bool, false, List, drop, length, map, slice_index_or, Option, None, Some, if◌then◌else◌}
use Rattle.std.specs.List.{list_any, position}
use Rattle.jx_geom.specs.declared.shape.CompShape.{CompShape}
use Rattle.jx_geom.specs.Geometry.{no_shape}
use Rattle.jx_geom.specs.Ranges.{exponent_across, exponent_down}
use Rattle.jx_geom.specs.Rects.{block_across, block_down}
use Rattle.jx_geom.specs.Same.{AllSameBlocks, SameBlocks}
use Rattle.jx_marker.specs.Rules.{has_zero_exponent}
use Rattle.jx_marker.specs.declared.Segment.{Segment}
use Rattle.jx_marker.specs.declared.Segment.TheVariants as segment
use Rattle.jx_marker.specs.declared.Shape.{Shape}
use Rattle.jx_codestream.specs.declared.Stream.{Stream}
use Rattle.jx_codestream.specs.declared.Tile.{Tile}
use Rattle.jx_codestream.specs.First.{tile_number}
use Rattle.jx_codestream.specs.Shapes.{shapes_of}
use Rattle.jx_plan.specs.declared.faults.Misfit.{Misfit}
use Rattle.jx_plan.specs.declared.faults.PlanFault.{PlanFault}
use Rattle.jx_plan.specs.declared.faults.PlanFault.TheVariants as fault
use Rattle.jx_plan.specs.Headers.{comp_written, precincts_written}

-- an exponent 0 above resolution 0
abbrev pub shape_has_zero : Option (List ℕ) → Shape → Bool
shape_has_zero precincts shape = list_any has_zero_exponent (drop 1 (precincts_written precincts shape))

-- a COD or COC would have one
abbrev pub has_zero : Option (List ℕ) → Segment → Bool
has_zero precincts (segment.Cod cod) = shape_has_zero precincts cod.shape
has_zero precincts (segment.Coc comp shape) = shape_has_zero precincts shape
has_zero precincts _ = false

abbrev pub tile_has_zero : Option (List ℕ) → Tile → Bool
tile_has_zero precincts t = list_any (has_zero precincts) t.header

-- choice 3: where: 0 where such a segment stands in the main header, else the lowest tile that has one
abbrev pub first_zero : Option (List ℕ) → Stream → Option ℕ
first_zero precincts s = if list_any (has_zero precincts) s.main then Some 0 else position (tile_has_zero precincts) s.tiles

-- a tile's components have the blocks with these precincts that they had before
abbrev pub KeepsBlocks : Option (List ℕ) → Stream → ℕ → Type 0
KeepsBlocks precincts s t = AllSameBlocks (shapes_of s t) (map (comp_written precincts) (shapes_of s t))

-- a block has the same exponents at a resolution
abbrev pub IsSameAt : CompShape → CompShape → ℕ → Type 0
IsSameAt s t r = (block_across s r ≡ block_across t r) × (block_down s r ≡ block_down t r)

-- the lowest resolution of a component at which a block would have other exponents with these precincts
pub record IsChangedFrom (precincts : Option (List ℕ)) (s : CompShape) (r : ℕ) : Type 0 where
  pub level : r ≤ s.levels
  pub changed : IsSameAt s (comp_written precincts s) r → ⊥
  pub lowest : (q : ℕ) → q < r → IsSameAt s (comp_written precincts s) q

-- a component has the blocks with these precincts that it had before
abbrev pub CompKeeps : Option (List ℕ) → CompShape → Type 0
CompKeeps precincts s = SameBlocks s (comp_written precincts s)

-- the lowest component that has not, its lowest such resolution, and the exponents of its own precincts there (Table A.21)
pub record IsMisfitIn (precincts : Option (List ℕ)) (shapes : List CompShape) (m : Misfit) : Type 0 where
  pub inside : m.comp < length shapes
  pub lowest : (c : ℕ) → c < m.comp → CompKeeps precincts (slice_index_or shapes c no_shape)
  pub changed : IsChangedFrom precincts (slice_index_or shapes m.comp no_shape) m.res
  pub across : m.across ≡ exponent_across (slice_index_or shapes m.comp no_shape) m.res
  pub down : m.down ≡ exponent_down (slice_index_or shapes m.comp no_shape) m.res

-- the same of a tile
abbrev pub IsMisfitAt : Option (List ℕ) → Stream → ℕ → Misfit → Type 0
IsMisfitAt precincts s t m = IsMisfitIn precincts (shapes_of s t) m

pub record Fits (precincts : Option (List ℕ)) (s : Stream) : Type 0 where
  -- choice 3
  pub above : first_zero precincts s ≡ None
  -- choice 2
  pub blocks : (t : ℕ) → t < tile_number s.siz → KeepsBlocks precincts s t

-- choice 2, after choice 3: the lowest tile in which some effective exponent of a block would be another
pub record IsChangedAt (precincts : Option (List ℕ)) (s : Stream) (place : ℕ) : Type 0 where
  pub above : first_zero precincts s ≡ None
  pub inside : place < tile_number s.siz
  pub changed : KeepsBlocks precincts s place → ⊥
  pub lowest : (t : ℕ) → t < place → KeepsBlocks precincts s t

-- choices 3 and 2: precincts that the codestream can't have
abbrev pub IsUnfit : Stream → Option (List ℕ) → ℕ → ℕ → Type 0
IsUnfit s precincts number place = ((number ≡ 3) × (first_zero precincts s ≡ Some place)) ⊎ ((number ≡ 2) × IsChangedAt precincts s place)

-- the same of a fault; want of memory is free
abbrev pub AreUnfit : Stream → Option (List ℕ) → PlanFault → Type 0
AreUnfit s precincts (fault.Choice number place) = IsUnfit s precincts number place
AreUnfit s precincts (fault.Limit number found) = ⊥
AreUnfit s precincts fault.NoMemory = Unit {0}
