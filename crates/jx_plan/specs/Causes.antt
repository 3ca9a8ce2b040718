-- What is in the way of a plan in the blocks and in the headers: choice 1; limit 7 and choices 12, 5, 10 and 11, of so many layers.
use Rattle.std.specs.Prelude.{◌≡◌, ◌⊎◌, ◌<◌, ◌≤◌, ℕ, List, Option, None, Some}
use Rattle.jx_base.specs.declared.pieces.Block.{Block}
use Rattle.jx_base.specs.declared.style.Style.{Style}
use Rattle.jx_codestream.specs.declared.Stream.{Stream}
use Rattle.jx_codestream.specs.First.{tile_number}
use Rattle.jx_tile.specs.Totals.{packet_total}
use Rattle.jx_plan.specs.declared.faults.PlanFault.{PlanFault}
use Rattle.jx_plan.specs.declared.faults.PlanFault.TheVariants as fault
use Rattle.jx_plan.specs.Causal.{first_broken}
use Rattle.jx_plan.specs.Fits.{Fits}
use Rattle.jx_tile_parts.specs.Groups.{HasFewEntries, HasFewParts, HasManyEntries, IsPartedAt}
use Rattle.jx_plan.specs.Plan.{headers_with, most_packets}
use Rattle.jx_plan.specs.Profile.{unclaimed}
use Rattle.jx_plan.specs.Strays.{HasNoStray, IsStray}
use Rattle.jx_options.specs.Wanted.{Wanted}

-- limit 7, of so many layers
pub record PassesPackets (s : Stream) (w : Wanted) (layers found : ℕ) : Type 0 where
  pub fits : Fits w.precincts s
  pub count : found ≡ packet_total (headers_with w layers s)
  pub many : most_packets < found

-- choice 12, of so many layers
pub record HasStrayAt (s : Stream) (w : Wanted) (layers place : ℕ) : Type 0 where
  pub fits : Fits w.precincts s
  pub few : packet_total (headers_with w layers s) ≤ most_packets
  pub stray : IsStray s w layers place

-- choice 5, of so many layers
pub record HasManyPartsAt (s : Stream) (w : Wanted) (layers place : ℕ) : Type 0 where
  pub fits : Fits w.precincts s
  pub few : packet_total (headers_with w layers s) ≤ most_packets
  pub placed : HasNoStray s w layers
  pub many : IsPartedAt w.marks.parts (headers_with w layers s) place

-- choice 10, of so many layers
pub record HasManyEntriesAt (s : Stream) (w : Wanted) (layers place : ℕ) : Type 0 where
  pub fits : Fits w.precincts s
  pub few : packet_total (headers_with w layers s) ≤ most_packets
  pub placed : HasNoStray s w layers
  pub parts : (t : ℕ) → t < tile_number s.siz → HasFewParts w.marks.parts (headers_with w layers s) t
  pub many : HasManyEntries w.marks (headers_with w layers s)
  pub place_is : place ≡ 0

-- choice 11, of so many layers
pub record IsUnclaimedAt (s : Stream) (w : Wanted) (layers place : ℕ) : Type 0 where
  pub fits : Fits w.precincts s
  pub few : packet_total (headers_with w layers s) ≤ most_packets
  pub placed : HasNoStray s w layers
  pub parts : (t : ℕ) → t < tile_number s.siz → HasFewParts w.marks.parts (headers_with w layers s) t
  pub entries : HasFewEntries w.marks (headers_with w layers s)
  pub first : unclaimed w.marks (headers_with w layers s) ≡ Some place

-- what comes after choice 4: choice 5, choice 10 or choice 11
abbrev pub IsLate : Stream → Wanted → ℕ → ℕ → ℕ → Type 0
IsLate s w layers number place =
    ((number ≡ 5) × HasManyPartsAt s w layers place) ⊎ (((number ≡ 10) × HasManyEntriesAt s w layers place) ⊎ ((number ≡ 11) × IsUnclaimedAt s w layers place))

-- choice 1: the lowest block that would change its causal bit within a plane
abbrev pub IsPlaneBroken : Option Style → List Block → PlanFault → Type 0
IsPlaneBroken style blocks (fault.Choice number place) = (number ≡ 1) × (first_broken style blocks ≡ Some place)
IsPlaneBroken style blocks (fault.Limit number found) = ⊥
IsPlaneBroken style blocks fault.NoMemory = ⊥

-- nothing in the headers is in the way of a plan with so many layers
pub record IsFree (s : Stream) (w : Wanted) (layers : ℕ) : Type 0 where
  pub fits : Fits w.precincts s
  pub few : packet_total (headers_with w layers s) ≤ most_packets
  pub placed : HasNoStray s w layers
  pub parts : (t : ℕ) → t < tile_number s.siz → HasFewParts w.marks.parts (headers_with w layers s) t
  pub entries : HasFewEntries w.marks (headers_with w layers s)
  pub claimed : unclaimed w.marks (headers_with w layers s) ≡ None
