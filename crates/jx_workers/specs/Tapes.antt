-- Jobs, and the tape that is made of them.
use Rattle.std.specs.Prelude.{◌≡◌, ℕ, ◌+◌, ◌<◌, ◌≤◌, if◌then◌else◌, List, [], ◌∷◌, map, length, All, Option, Some, None, slice_get}
use Rattle.jx_base.specs.Pieces.{bytes_in}
use Rattle.jx_codeblock.specs.declared.job.Job.{Job}
use Rattle.jx_codeblock.specs.Jobs.{IsAsked}
use Rattle.jx_codeblock.specs.Recoding.{Recoding}
use Rattle.jx_codeblock.specs.Recoded.{WrittenBlock, is_bad, recoding_in}
use Rattle.jx_store.specs.declared.event.Taped.{Taped}
use Rattle.jx_store.specs.declared.work.Named.{Named}
use Rattle.jx_store.specs.declared.work.Named.TheVariants.{Made, Bad}
use Rattle.jx_store.specs.Order.{numbers}
use Rattle.jx_store.specs.Setup.{Setup, Within}

-- a job that may be asked, under its number
pub record IsJob (number : ℕ) (j : Job) : Type 0 where
  pub numbered : j.number ≡ number
  pub asked : IsAsked j.block.now j.style j.ends

-- jobs of the numbers from the first on
abbrev pub AreAsked : ℕ → List Job → Type 0
AreAsked first jobs = (i : ℕ) (j : Job) → slice_get jobs i ≡ Some j → IsJob (first + i) j

-- what a worker knows: the first number, and the jobs from it on
pub record Asked : Type 0 where
  pub first : ℕ
  pub jobs : List Job

-- how many bytes the pieces of a job's block have
abbrev pub size_of : Job → ℕ
size_of j = bytes_in j.block.now.pieces

abbrev pub bounds : ℕ → ℕ → ℕ → List Job → Setup
bounds first window most jobs = record { first = first; sizes = map size_of jobs; window = window; most = most }

-- what stands under a job's number: what it asks for, or that it is bad, where nothing can be made of it
abbrev pub named_as : Job → Option Recoding → Named WrittenBlock
named_as j (Some r) = Made (record { job = j; recoding = r })
named_as j None = Bad j.number

abbrev pub answer_of : Job → Named WrittenBlock
answer_of j = named_as j (recoding_in j)

-- jobs up to the first that is bad, with it
abbrev pub up_to_bad : List Job → List Job
up_to_bad [] = []
up_to_bad (j ∷ js) = j ∷ (if is_bad j then [] else up_to_bad js)

-- the tape of these jobs, up to the first that is bad: their numbers in order, each once; under each the answer to its job; worker numbers
-- below `threads`; and each number claimed inside both windows, when none before the first was still out
pub record IsTape (jobs : List Job) (first threads window most : ℕ) (entries : List (Taped (Named WrittenBlock))) : Type 0 where
  pub order : map (λ (t : Taped (Named WrittenBlock)). t.number) entries ≡ numbers first (length (up_to_bad jobs))
  pub answers : map (λ (t : Taped (Named WrittenBlock)). t.named) entries ≡ map answer_of (up_to_bad jobs)
  pub workers : All (λ (t : Taped (Named WrittenBlock)). t.worker < threads) entries
  pub within : All (λ (t : Taped (Named WrittenBlock)). Within (bounds first window most jobs) t.seen t.number) entries
  pub from : All (λ (t : Taped (Named WrittenBlock)). first ≤ t.seen) entries

-- a tape of these jobs, by some workers within some windows
pub record IsTapeOf (jobs : List Job) (entries : List (Taped (Named WrittenBlock))) : Type 0 where
  pub first : ℕ
  pub threads : ℕ
  pub window : ℕ
  pub most : ℕ
  pub is : IsTape jobs first threads window most entries
