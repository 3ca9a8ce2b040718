-- What the steps of a plan answer, and what stands between them.
use Rattle.std.specs.Prelude.{◌≡◌, ◌⊎◌, ◌<◌, ◌≤◌, ℕ, Bool, true, false, List, Option, None, Some}
use Rattle.std.specs.List.{list_any}
use Rattle.jx_codestream.specs.declared.Stream.{Stream}
use Rattle.jx_codestream.specs.Params.{header_of}
use Rattle.jx_tile.specs.Totals.{packet_total}
use Rattle.jx_codeblock.specs.declared.job.Job.{Job}
use Rattle.jx_plan.specs.declared.faults.PlanFault.{PlanFault}
use Rattle.jx_plan.specs.declared.faults.PlanFault.TheVariants as fault
use Rattle.jx_plan.specs.Changes.{is_coding}
use Rattle.jx_plan.specs.Crowded.{IsLowestCrowded}
use Rattle.jx_plan.specs.Fits.{KeepsBlocks}
use Rattle.jx_tile_parts.specs.Groups.{ArePartCounts, HasFewParts, HasManyEntries}
use Rattle.jx_plan.specs.Profile.{unclaimed}
use Rattle.jx_codestream.specs.First.{tile_number}
use Rattle.jx_base.specs.Joined.{sum_below}
use Rattle.jx_options.specs.declared.Marks.{Marks}
use Rattle.jx_options.specs.declared.PartChoice.{PartChoice}
use Rattle.jx_plan.specs.Causes.{HasManyPartsAt, HasStrayAt, IsLate, PassesPackets}
use Rattle.jx_plan.specs.Plan.{headers_with, most_packets}
use Rattle.jx_plan.specs.Strays.{HasNoStray}
use Rattle.jx_options.specs.Wanted.{Wanted}

-- where it is known, the tiles that have neither keep their blocks
abbrev pub IsKnown : Bool → Option (List ℕ) → Stream → Type 0
IsKnown known precincts s = known ≡ true → (t : ℕ) → list_any is_coding (header_of s t) ≡ false → KeepsBlocks precincts s t

-- limit 7 alone
abbrev pub IsOverPackets : Stream → Wanted → ℕ → PlanFault → Type 0
IsOverPackets s w layers (fault.Choice number place) = ⊥
IsOverPackets s w layers (fault.Limit number found) = (number ≡ 7) × PassesPackets s w layers found
IsOverPackets s w layers fault.NoMemory = Unit {0}

-- choice 12 alone
abbrev pub IsAnyStray : Stream → Wanted → ℕ → PlanFault → Type 0
IsAnyStray s w layers (fault.Choice number place) = (number ≡ 12) × HasStrayAt s w layers place
IsAnyStray s w layers (fault.Limit number found) = ⊥
IsAnyStray s w layers fault.NoMemory = Unit {0}

-- choice 5 alone
abbrev pub IsOverParts : Stream → Wanted → ℕ → PlanFault → Type 0
IsOverParts s w layers (fault.Choice number place) = (number ≡ 5) × HasManyPartsAt s w layers place
IsOverParts s w layers (fault.Limit number found) = ⊥
IsOverParts s w layers fault.NoMemory = Unit {0}

-- all tiles have few tile-parts, and so many in all
pub record AreAllParts (parts : PartChoice) (s : Stream) (all : ℕ) : Type 0 where
  pub few : (t : ℕ) → t < tile_number s.siz → HasFewParts parts s t
  pub total : (counts : ℕ → ℕ) → ArePartCounts parts s counts → sum_below counts (tile_number s.siz) ≡ all

-- choice 10 alone
abbrev pub IsOverEntries : Marks → Stream → PlanFault → Type 0
IsOverEntries m s e = (e ≡ fault.Choice 10 0) × HasManyEntries m s

-- choice 11 alone
abbrev pub IsUnmet : Marks → Stream → PlanFault → Type 0
IsUnmet m s (fault.Choice number place) = (number ≡ 11) × (unclaimed m s ≡ Some place)
IsUnmet m s (fault.Limit number found) = ⊥
IsUnmet m s fault.NoMemory = ⊥

-- choice 5, 10 or 11
abbrev pub IsTooLate : Stream → Wanted → ℕ → PlanFault → Type 0
IsTooLate s w layers (fault.Choice number place) = IsLate s w layers number place
IsTooLate s w layers (fault.Limit number found) = ⊥
IsTooLate s w layers fault.NoMemory = Unit {0}

-- limit 7, choice 12, 4, 5, 10 or 11, with these jobs
abbrev pub IsTooMuch : Stream → Wanted → ℕ → List Job → PlanFault → Type 0
IsTooMuch s w layers jobs (fault.Choice number place) =
    ((number ≡ 12) × HasStrayAt s w layers place)
    ⊎ (((number ≡ 4) × (packet_total (headers_with w layers s) ≤ most_packets) × HasNoStray s w layers × IsLowestCrowded jobs (Some place))
    ⊎ (IsLate s w layers number place × IsLowestCrowded jobs None))
IsTooMuch s w layers jobs (fault.Limit number found) = (number ≡ 7) × PassesPackets s w layers found
IsTooMuch s w layers jobs fault.NoMemory = Unit {0}
