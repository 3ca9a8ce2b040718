-- What is planned by a planner that was handed in, and why nothing is: choice 1; choice 3; choice 2; choice 6, where no planner serves the words
-- or it makes no rule of them; limit 7; choice 12; choice 4; choice 5;
-- choice 10; choice 11.
use Rattle.std.specs.Prelude.{◌≡◌, ◌⊎◌, ◌<◌, ◌≤◌, ◌^◌, ℕ, Bool, List, [], ◌∷◌, Option, None, Some, if◌then◌else◌}
use Rattle.jx_base.specs.declared.pieces.Block.{Block}
use Rattle.jx_base.specs.declared.style.Style.{Style}
use Rattle.jx_codeblock.specs.declared.job.Job.{Job}
use Rattle.jx_codestream.specs.declared.Stream.{Stream}
use Rattle.jx_tile.specs.Totals.{packet_total}
use Rattle.jx_layers.specs.declared.StreamFacts.{StreamFacts}
use Rattle.jx_plan.specs.declared.faults.PlanFault.{PlanFault}
use Rattle.jx_plan.specs.declared.faults.PlanFault.TheVariants as fault
use Rattle.jx_plan.specs.Causal.{first_broken}
use Rattle.jx_layers.specs.Rule.{Rule, layers_by}
use Rattle.jx_plan.specs.Layers.{AreJobs, written_by}
use Rattle.jx_plan.specs.Crowded.{IsLowestCrowdedBlock}
use Rattle.jx_plan.specs.Facts.{facts_of}
use Rattle.jx_plan.specs.Fits.{AreUnfit, Fits}
use Rattle.jx_plan.specs.Causes.{HasStrayAt, IsFree, IsLate, IsPlaneBroken, PassesPackets}
use Rattle.jx_plan.specs.Plan.{Plan, headers_with, most_packets}
use Rattle.jx_plan.specs.Strays.{HasNoStray}
use Rattle.jx_options.specs.Wanted.{Wanted}

-- so many layers and these jobs, by the rule that there is
abbrev pub ArePlanned : Option Style → Option Rule → StreamFacts → List Block → ℕ → List Job → Type 0
ArePlanned style None facts blocks layers jobs = ⊥
ArePlanned style (Some r) facts blocks layers jobs = (layers ≡ layers_by r facts) × (1 ≤ layers) × AreJobs style r layers blocks jobs

-- without a rule the fault is choice 6, with one it is want of memory
abbrev pub IsUnplanned : Option Rule → PlanFault → Type 0
IsUnplanned None e = e ≡ fault.Choice 6 0
IsUnplanned (Some r) e = e ≡ fault.NoMemory

-- what the first item that passes gives
abbrev pub chosen : {X Y : Type 0} → (X → Bool) → (X → Option Y) → List X → Option Y
chosen p f [] = None
chosen p f (x ∷ xs) = if p x then f x else chosen p f xs

-- the layers that a rule makes of a stream
abbrev pub layers_of_rule : Rule → Stream → List Block → ℕ
layers_of_rule r s blocks = layers_by r (facts_of s blocks)

-- what is planned by a rule: its layers, and jobs in the layers that it answers
pub record IsPlannedBy (r : Rule) (s : Stream) (blocks : List Block) (w : Wanted) (p : Plan) : Type 0 where
  pub stream : p.stream ≡ s
  pub blocks_are : p.blocks ≡ blocks
  pub wanted : p.wanted ≡ w
  pub layers : p.layers ≡ layers_of_rule r s blocks
  pub jobs : AreJobs w.style r p.layers blocks p.jobs

-- by the rule that there is
abbrev pub IsPlanned : Option Rule → Stream → List Block → Wanted → Plan → Type 0
IsPlanned None s blocks w p = ⊥
IsPlanned (Some r) s blocks w p = IsPlannedBy r s blocks w p

-- the code-blocks as they are written by a rule
abbrev pub blocks_written : Wanted → Rule → Stream → List Block → List Block
blocks_written w r s blocks = written_by w.style r (layers_of_rule r s blocks) blocks

-- choice 4: the lowest block of which a layer would have too many passes, or none
abbrev pub IsCrowded : Rule → Stream → List Block → Option ℕ → Type 0
IsCrowded r s blocks lowest = IsLowestCrowdedBlock r (layers_of_rule r s blocks) blocks lowest

-- nothing of what comes before it, and there is such a block
pub record IsCrowdedAt (r : Rule) (s : Stream) (blocks : List Block) (w : Wanted) (place : ℕ) : Type 0 where
  pub fits : Fits w.precincts s
  pub few : packet_total (headers_with w (layers_of_rule r s blocks) s) ≤ most_packets
  pub placed : HasNoStray s w (layers_of_rule r s blocks)
  pub lowest : IsCrowded r s blocks (Some place)

-- choice 5, 10 or 11: the same, and no block is crowded
pub record IsLateBy (r : Rule) (s : Stream) (blocks : List Block) (w : Wanted) (number place : ℕ) : Type 0 where
  pub cause : IsLate s w (layers_of_rule r s blocks) number place
  pub uncrowded : IsCrowded r s blocks None

-- why nothing is planned by a rule
abbrev pub IsUnplannedBy : Rule → Stream → List Block → Wanted → PlanFault → Type 0
IsUnplannedBy r s blocks w (fault.Choice number place) =
    ((number ≡ 12) × HasStrayAt s w (layers_of_rule r s blocks) place)
    ⊎ (((number ≡ 4) × IsCrowdedAt r s blocks w place) ⊎ IsLateBy r s blocks w number place)
IsUnplannedBy r s blocks w (fault.Limit number found) = (number ≡ 7) × PassesPackets s w (layers_of_rule r s blocks) found
IsUnplannedBy r s blocks w fault.NoMemory = Unit {0}

-- by the rule that there is, or without one
abbrev pub LacksPlan : Option Rule → Stream → List Block → Wanted → PlanFault → Type 0
LacksPlan None s blocks w e = Fits w.precincts s × (e ≡ fault.Choice 6 0)
LacksPlan (Some r) s blocks w e = IsUnplannedBy r s blocks w e

-- what comes after choice 1
abbrev pub HasLaterCause : Option Rule → Stream → List Block → Wanted → PlanFault → Type 0
HasLaterCause rule s blocks w e = AreUnfit s w.precincts e ⊎ LacksPlan rule s blocks w e

-- of each rule and stream one cause at most; want of memory is free
abbrev pub HasPlanCause : Option Rule → Stream → List Block → Wanted → PlanFault → Type 0
HasPlanCause rule s blocks w e = IsPlaneBroken w.style blocks e ⊎ ((first_broken w.style blocks ≡ None) × HasLaterCause rule s blocks w e)

-- nothing is in the way of a plan by a rule
pub record IsFreeBy (r : Rule) (s : Stream) (blocks : List Block) (w : Wanted) : Type 0 where
  pub whole : first_broken w.style blocks ≡ None
  pub free : IsFree s w (layers_of_rule r s blocks)
  pub uncrowded : IsCrowded r s blocks None

-- by the rule that there is
abbrev pub CanBePlannedBy : Option Rule → Stream → List Block → Wanted → Type 0
CanBePlannedBy None s blocks w = ⊥
CanBePlannedBy (Some r) s blocks w = IsFreeBy r s blocks w

-- a rule makes 1 to 65,535 layers of a stream, where there is one
abbrev pub MakesLayers : Option Rule → Stream → List Block → Type 0
MakesLayers None s blocks = Unit {0}
MakesLayers (Some r) s blocks = (1 ≤ layers_of_rule r s blocks) × (layers_of_rule r s blocks < 2 ^ 16)
