-- The jobs of a tile: those of its code-blocks.
use Rattle.std.specs.Prelude.{◌≡◌, ◌<◌, ◌≤◌, ◌↔◌, ℕ, List, length, Some, slice_get}
use Rattle.jx_codeblock.specs.declared.job.Job.{Job}

-- the jobs from one on below another are those of a tile, and no other job is
pub record AreTileJobs (jobs : List Job) (tile first end : ℕ) : Type 0 where
  pub order : first ≤ end
  pub inside : end ≤ length jobs
  pub own : (number : ℕ) (job : Job) → slice_get jobs number ≡ Some job → ((first ≤ number) × (number < end)) ↔ (job.block.now.name.tile ≡ tile)

-- inner: so many jobs come first, and they are those of the tiles below one
pub record AreJobsBelow (jobs : List Job) (tile count : ℕ) : Type 0 where
  pub inside : count ≤ length jobs
  pub before : (number : ℕ) (job : Job) → slice_get jobs number ≡ Some job → number < count → job.block.now.name.tile < tile
  pub behind : (number : ℕ) (job : Job) → slice_get jobs number ≡ Some job → count ≤ number → tile ≤ job.block.now.name.tile
