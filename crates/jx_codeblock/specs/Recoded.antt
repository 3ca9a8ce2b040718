-- A block as it is written, with the job that it was made of.
use Rattle.std.specs.Prelude.{◌≡◌, ◌≤◌, ℕ, Bool, ◌&&◌, List, [], length, Option, Some, None, is_some, is_none}
use Rattle.std.specs.List.{concat}
use Rattle.jx_base.specs.declared.pieces.Block.{Block}
use Rattle.jx_base.specs.declared.style.Style.{Style}
use Rattle.jx_codeblock.specs.declared.faults.BlockFault.{BlockFault}
use Rattle.jx_codeblock.specs.declared.faults.BlockFault.TheVariants as fault
use Rattle.jx_codeblock.specs.declared.job.Job.{Job}
use Rattle.jx_codeblock.specs.declared.LayerPart.{LayerPart}
use Rattle.jx_codeblock.specs.Recoding.{Recoding, recoding, own_segments, new_style}
use Rattle.jx_codeblock.specs.Jobs.{IsAsked}
use Rattle.jx_codeblock.specs.Starts.{AreStarts}
use Rattle.jx_base.specs.Limits.{most_bytes}

pub record WrittenBlock : Type 0 where
  pub job : Job
  pub recoding : Recoding

-- what a job asks for
abbrev pub recoding_in : Job → Option Recoding
recoding_in j = recoding j.block.now j.style j.ends

-- nothing can be made of the job: a style is asked, and a segmentation symbol is wrong
abbrev pub is_bad : Job → Bool
is_bad j = is_some j.style && is_none (recoding_in j)

-- the refusal has its cause: the job's number where nothing can be made of it; want of memory is free
abbrev pub HasCause : Job → BlockFault → Type 0
HasCause j (fault.BadSegmentation number) = (number ≡ j.number) × (recoding_in j ≡ None)
HasCause j fault.NoMemory = Unit {0}

-- the bytes that a block is written with: its own, or new ones where it is coded anew
abbrev pub bytes_by : Block → Option Style → List ℕ → List ℕ
bytes_by b None new = concat (own_segments b)
bytes_by b (Some style) new = new

-- the block with these bytes and parts
abbrev pub made_recoding : Job → List ℕ → List LayerPart → Recoding
made_recoding j new parts = record { style = new_style j.block.now j.style; bytes = bytes_by j.block.now j.style new; parts = parts }

-- a list of what there may be: none where there is nothing
abbrev pub list_of : {A B : Type 0} → (A → List B) → Option A → List B
list_of f None = []
list_of f (Some a) = f a

-- the new bytes of a block, where pieces begin of one that keeps its own, and its parts
pub record MadeLists : Type 0 where
  pub bytes : List ℕ
  pub starts : List ℕ
  pub parts : List LayerPart

-- the job is a valid one, and these are its new bytes, where its pieces begin, and its parts
pub record IsMade (j : Job) (new starts : List ℕ) (parts : List LayerPart) : Type 0 where
  pub asked : IsAsked j.block.now j.style j.ends
  pub few : length new ≤ most_bytes
  pub begins : AreStarts j.block.now.pieces starts
  pub is : Some (made_recoding j new parts) ≡ recoding_in j
