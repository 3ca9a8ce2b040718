-- What is in the way of leaving out d resolutions (ITU-T T.800, Tables A.9 and A.15): choice 8, a subsampling factor that one byte doesn't
-- hold, then choice 9, a COD or COC with fewer levels.
use Rattle.std.specs.Prelude.{◌≡◌, ℕ, ◌*◌, ◌^◌, ◌||◌, nat_lt, Bool, false, List, Option, None, Some, if◌then◌else◌}
use Rattle.std.specs.List.{list_any, position}
use Rattle.std.specs.Option.{option_or}
use Rattle.jx_marker.specs.declared.CompSize.{CompSize}
use Rattle.jx_marker.specs.declared.Segment.{Segment}
use Rattle.jx_marker.specs.declared.Segment.TheVariants as segment
use Rattle.jx_codestream.specs.declared.Tile.{Tile}
use Rattle.jx_codestream.specs.declared.Stream.{Stream}
use Rattle.jx_reduce.specs.declared.faults.ReduceFault.{ReduceFault}
use Rattle.jx_reduce.specs.declared.faults.ReduceFault.TheVariants as fault

abbrev pub passes_byte : ℕ → CompSize → Bool
passes_byte d size = nat_lt 255 (size.dx * 2 ^ d) || nat_lt 255 (size.dy * 2 ^ d)

-- choice 8: the lowest component with such a factor
abbrev pub first_passing : ℕ → List CompSize → Option ℕ
first_passing d sizes = position (passes_byte d) sizes

abbrev pub has_fewer : ℕ → Segment → Bool
has_fewer d (segment.Cod cod) = nat_lt cod.shape.levels d
has_fewer d (segment.Coc comp shape) = nat_lt shape.levels d
has_fewer d _ = false

abbrev pub tile_has_fewer : ℕ → Tile → Bool
tile_has_fewer d t = list_any (has_fewer d) t.header

-- choice 9: 0 where such a segment stands in the main header, else the lowest tile that has one
abbrev pub first_fewer : ℕ → Stream → Option ℕ
first_fewer d s = if list_any (has_fewer d) s.main then Some 0 else position (tile_has_fewer d) s.tiles

-- the choice of a number at a place, where there is one
abbrev pub choice_at : ℕ → Option ℕ → Option ReduceFault
choice_at number None = None
choice_at number (Some place) = Some (fault.Choice number place)

-- choice 8, then choice 9
abbrev pub first_choice : ℕ → Stream → Option ReduceFault
first_choice d s = option_or (choice_at 8 (first_passing d s.siz.comps)) (choice_at 9 (first_fewer d s))

-- a refusal has this cause; want of memory is free
abbrev pub IsUnreducible : ℕ → Stream → ReduceFault → Type 0
IsUnreducible d s (fault.Choice number place) = first_choice d s ≡ Some (fault.Choice number place)
IsUnreducible d s fault.NoMemory = Unit {0}
