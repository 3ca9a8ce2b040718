-- What becomes of an input, and of its plan by where it is written; and the statuses of what was refused.
use Rattle.std.specs.Prelude.{◌≡◌, ◌⊎◌, ◌+◌, ℕ, List, [], length, Option, Result, Ok, Err, IfErr, IfOk, IfSome, OnOk}
use Rattle.jx_base.specs.declared.pieces.Block.{Block}
use Rattle.jx_io.specs.Device.{Meaning}
use Rattle.jx_io.specs.declared.refused.Refused.{Refused}
use Rattle.jx_io.specs.declared.refused.Refused.TheVariants as refused
use Rattle.jx_codestream.specs.declared.Stream.{Stream}
use Rattle.jx_codestream.specs.declared.faults.StreamFault.{StreamFault}
use Rattle.jx_codestream.specs.declared.faults.StreamFault.TheVariants as fault
use Rattle.jx_layers.specs.Rule.{Rule}
use Rattle.jx_options.specs.Wanted.{Wanted}
use Rattle.jx_options.specs.Work.{Work}
use Rattle.jx_plan.specs.declared.faults.PlanFault.{PlanFault}
use Rattle.jx_plan.specs.declared.faults.PlanFault.TheVariants as unplanned
use Rattle.jx_plan.specs.Plan.{IsPlan, Plan}
use Rattle.jx_plan.specs.Planned.{HasPlanCause}
use Rattle.jx_reduce.specs.declared.faults.ReduceFault.{ReduceFault}
use Rattle.jx_reduce.specs.declared.faults.ReduceFault.TheVariants as unreduced
use Rattle.jx_cli.specs.Words.{Text}
use Rattle.jx_rounds.specs.Files.{IsFileHalted, IsFileMade}
use Rattle.jx_rounds.specs.Heads.{IsCodestreamOf, IsUnmeasured}
use Rattle.jx_rounds.specs.Rounds.{IsTapedTo}
use Rattle.jx_rounds.specs.Tapes.{IsTapeOf}
use Rattle.jx_rounds.specs.declared.halt.Halt.{Halt}
use Rattle.jx_rounds.specs.declared.halt.Halt.TheVariants as halt
use Rattle.jx_rounds.specs.declared.tape.TapeEntry.{TapeEntry}
use Rattle.jx_transcode.specs.Aims.{Aim}
use Rattle.jx_transcode.specs.Misfits.{IsMisfitBy}
use Rattle.jx_transcode.specs.Outcome.{IsCutShort, IsVerdict, Leaves, Verdict}
use Rattle.jx_transcode.specs.Rewritten.{HasBlocks}
use Rattle.jx_transcode.specs.RunTapes.{IsRunTape, IsTapedAfter}
use Rattle.jx_transcode.specs.declared.rewrite.Ending.{Ending}
use Rattle.jx_transcode.specs.declared.status.Status.{Status}
use Rattle.jx_transcode.specs.declared.status.Status.TheVariants as status

-- what becomes of an input whose bytes were read
pub record IsAnswered (name : Text) (work : Work) (aim : Aim) (input : List ℕ) (s : Status) (blocks bytes : ℕ) (entries : List TapeEntry) (old new : Meaning) : Type 0 where
  pub verdict : IsVerdict s → Verdict aim input s
  pub leaves : Leaves name aim input s blocks bytes old new
  pub unsaid : IsCutShort name aim input blocks old new
  pub tape : IsRunTape work aim.reduce input entries
  pub whole : s ≡ status.Done → HasBlocks aim.reduce input (length entries)
  pub taped : IsTapedAfter aim.reduce input s (length entries)

-- nothing was made of an input that is longer than it may be
pub record IsTooLong (limit : ℕ) (s : Status) (blocks bytes : ℕ) (entries : List TapeEntry) (old new : Meaning) : Type 0 where
  pub is : s ≡ status.Limit 1 (limit + 1)
  pub blocks_are : blocks ≡ 0
  pub bytes_are : bytes ≡ 0
  pub tape : entries ≡ []
  pub same : new ≡ old

-- a plan was written to a file of this name, with so many bytes, or its writing ended before
pub record IsCarriedOut (p : Plan) (name : Text) (work : Work) (written : Result ℕ Halt) (blocks : ℕ) (entries : List TapeEntry) (old new : Meaning) : Type 0 where
  pub plan : IsPlan p
  pub count : blocks ≡ length p.blocks
  pub tape : IsTapeOf work p.blocks entries
  pub whole : OnOk written (length entries ≡ length p.blocks)
  pub taped : IfErr written (λ why. IsTapedTo p why (length entries))
  pub ok : IfOk written (λ count. IsFileMade p name count old new)
  pub err : IfErr written (λ why. IsFileHalted p name why old new)

-- the status of a file that wasn't written to its end
abbrev pub status_of : Halt → Status
status_of (halt.Bad tile number) = status.Block number
status_of (halt.TooLong tile) = status.Choice 7 tile
status_of halt.Failed = status.WriteFault
status_of halt.NoMemory = status.NoMemory

-- how a run ends whose file was written, with so many bytes, or wasn't to its end
abbrev pub IsEndOf : Result ℕ Halt → Status → ℕ → Type 0
IsEndOf (Ok count) s bytes = (s ≡ status.Done) × (bytes ≡ count)
IsEndOf (Err why) s bytes = (s ≡ status_of why) × (bytes ≡ 0)

-- a plan was written to a file, and how a run ends then
pub record IsCarriedTo (p : Plan) (name : Text) (work : Work) (s : Status) (blocks bytes : ℕ) (entries : List TapeEntry) (old new : Meaning) : Type 0 where
  pub written : Result ℕ Halt
  pub is : IsCarriedOut p name work written blocks entries old new
  pub ends : IsEndOf written s bytes

-- a plan was written to memory, or why it wasn't; so many entries were taped
abbrev pub IsEndIn : Plan → Status → List ℕ → ℕ → Type 0
IsEndIn p s out entries =
    ((s ≡ status.Done) × IsCodestreamOf p out × (entries ≡ length p.blocks))
    ⊎ ((why : Halt) × (s ≡ status_of why) × IsUnmeasured p why × IsTapedTo p why entries)

-- a plan was written to memory, and how a run ends then
pub record IsCarriedIn (p : Plan) (work : Work) (s : Status) (blocks : ℕ) (out : List ℕ) (entries : List TapeEntry) : Type 0 where
  pub plan : IsPlan p
  pub count : blocks ≡ length p.blocks
  pub tape : IsTapeOf work p.blocks entries
  pub ends : IsEndIn p s out (length entries)

-- the status of an input that couldn't be read
abbrev pub unread_as : Refused → Status
unread_as refused.Failed = status.ReadFault
unread_as refused.NoMemory = status.NoMemory

-- that of an output that couldn't be written to its end
abbrev pub unwritten_as : Refused → Status
unwritten_as refused.Failed = status.WriteFault
unwritten_as refused.NoMemory = status.NoMemory

-- that of an input in which something is violated or passed
abbrev pub told_by : StreamFault → Status
told_by (fault.Rule number place) = status.Rule number place
told_by (fault.Limit number found) = status.Limit number found
told_by fault.NoMemory = status.NoMemory

-- and of an input that isn't planned, with the blocks that are told
abbrev pub told_of_plan : PlanFault → Status
told_of_plan (unplanned.Limit number found) = status.Limit number found
told_of_plan (unplanned.Choice number place) = status.Choice number place
told_of_plan unplanned.NoMemory = status.NoMemory

abbrev pub blocks_told : PlanFault → ℕ → ℕ
blocks_told (unplanned.Limit number found) blocks = blocks
blocks_told (unplanned.Choice number place) blocks = blocks
blocks_told unplanned.NoMemory blocks = 0

-- how a run ends on a stream that isn't planned by a rule
pub record IsUnplannedEnd (rule : Option Rule) (s : Stream) (blocks : List Block) (w : Wanted) (ending : Ending) : Type 0 where
  pub why : PlanFault
  pub cause : HasPlanCause rule s blocks w why
  pub status_is : ending.status ≡ told_of_plan why
  pub count_is : ending.blocks ≡ blocks_told why (length blocks)
  pub none : ending.bytes ≡ 0
  pub tape : ending.tape.items ≡ []
  pub misfit : IfSome ending.misfit (λ misfit. IsMisfitBy w.precincts s why misfit)

-- and of an input out of which so many resolutions can't be left, with the blocks that are told
abbrev pub told_of_all : ReduceFault → Status
told_of_all (unreduced.Choice number place) = status.Choice number place
told_of_all unreduced.NoMemory = status.NoMemory

abbrev pub all_told : ReduceFault → ℕ → ℕ
all_told (unreduced.Choice number place) blocks = blocks
all_told unreduced.NoMemory blocks = 0

-- words that are no command, or that couldn't be read
abbrev pub IsUnread : Status → ℕ → Type 0
IsUnread s blocks = ((s ≡ status.Words) ⊎ (s ≡ status.NoMemory)) × (blocks ≡ 0)
