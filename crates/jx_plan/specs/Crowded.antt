-- The blocks of which some layer has over 164 passes.
use Rattle.std.specs.Prelude.{◌<◌, ℕ, List, Option, None, Some, slice_get}
use Rattle.jx_base.specs.declared.pieces.Block.{Block}
use Rattle.jx_codeblock.specs.declared.job.Job.{Job}
use Rattle.jx_layers.specs.Rule.{Rule}
use Rattle.jx_plan.specs.Layers.{HasMany, ends_of}

-- a job that is there sends so many
abbrev pub IsCrowded : Option Job → Type 0
IsCrowded None = ⊥
IsCrowded (Some job) = HasMany 0 job.ends

-- the lowest such one of some jobs, or none where there is none
abbrev pub IsLowestCrowded : List Job → Option ℕ → Type 0
IsLowestCrowded jobs None = (n : ℕ) → IsCrowded (slice_get jobs n) → ⊥
IsLowestCrowded jobs (Some k) = IsCrowded (slice_get jobs k) × ((n : ℕ) → n < k → IsCrowded (slice_get jobs n) → ⊥)

-- a block that is there has so many in some layer that a rule gives it
abbrev pub IsCrowdedBlock : Rule → ℕ → List Block → ℕ → Option Block → Type 0
IsCrowdedBlock rule layers blocks number None = ⊥
IsCrowdedBlock rule layers blocks number (Some b) = HasMany 0 (ends_of rule layers blocks number b)

-- choice 4: the lowest such block, or none where there is none
abbrev pub IsLowestCrowdedBlock : Rule → ℕ → List Block → Option ℕ → Type 0
IsLowestCrowdedBlock rule layers blocks None = (n : ℕ) → IsCrowdedBlock rule layers blocks n (slice_get blocks n) → ⊥
IsLowestCrowdedBlock rule layers blocks (Some k) =
    IsCrowdedBlock rule layers blocks k (slice_get blocks k) × ((n : ℕ) → n < k → IsCrowdedBlock rule layers blocks n (slice_get blocks n) → ⊥)
