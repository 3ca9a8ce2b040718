-- How a run of `transcode` ends on a JP2 file: what becomes of the codestream in it is said of its content, and the output is the same file
-- with another codestream in the place of its own, or this codestream alone (ITU-T T.800, I.4 and I.5.4).
use Rattle.std.specs.Prelude.{◌≡◌, ◌⊎◌, ◌<◌, ◌≤◌, ℕ, ◌+◌, List, [], length}
use Rattle.jx_io.specs.Device.{Meaning}
use Rattle.jx_cli.specs.Words.{Text}
use Rattle.jx_jp2.specs.declared.Boxed.{Boxed}
use Rattle.jx_jp2.specs.Codestream.{IsCodestream, IsJp2, IsNextFault, content}
use Rattle.jx_jp2.specs.Positions.{HoldsPositions}
use Rattle.jx_jp2.specs.Wrapped.{wrapped}
use Rattle.jx_options.specs.Work.{Work}
use Rattle.jx_options.specs.declared.FormChoice.{FormChoice}
use Rattle.jx_options.specs.declared.FormChoice.TheVariants as form
use Rattle.jx_transcode.specs.Aims.{Aim}
use Rattle.jx_plan.specs.Plan.{Plan}
use Rattle.jx_transcode.specs.Filed.{IsCarriedIn}
use Rattle.jx_transcode.specs.MakeRun.{TellsMade}
use Rattle.jx_rounds.specs.Files.{IsBegun, IsMade, IsUntouched}
use Rattle.jx_transcode.specs.Outcome.{IsVerdict, Verdict}
use Rattle.jx_transcode.specs.Rewritten.{HasBlocks, IsRewritten}
use Rattle.jx_transcode.specs.RunTapes.{IsRunTape, IsTapedAfter}
use Rattle.jx_transcode.specs.declared.status.Status.{Status}
use Rattle.jx_transcode.specs.declared.status.Status.TheVariants as status
use Rattle.jx_rounds.specs.declared.tape.TapeEntry.{TapeEntry}

-- limit 1, by the most bytes that a file may have, then the first of the rules 32 to 35 that it breaks before a codestream
abbrev pub RefusesBoxes : ℕ → List ℕ → Status → Type 0
RefusesBoxes limit input (status.Limit number found) = (limit < length input) × (number ≡ 1) × (found ≡ limit + 1)
RefusesBoxes limit input (status.Rule number place) = (length input ≤ limit) × IsNextFault input 0 number place
RefusesBoxes limit input status.Done = ⊥
RefusesBoxes limit input status.Words = ⊥
RefusesBoxes limit input (status.Unlike how) = ⊥
RefusesBoxes limit input (status.Choice number place) = ⊥
RefusesBoxes limit input (status.Block number) = ⊥
RefusesBoxes limit input status.ReadFault = ⊥
RefusesBoxes limit input status.WriteFault = ⊥
RefusesBoxes limit input status.NoMemory = ⊥

-- the verdict of a codestream, of which the first byte stands at `from` in the file: the place of a rule is the file's
abbrev pub VerdictAt : Aim → ℕ → List ℕ → Status → Type 0
VerdictAt aim from inner (status.Rule number place) = (at : ℕ) × (place ≡ from + at) × Verdict aim inner (status.Rule number at)
VerdictAt aim from inner (status.Limit number found) = Verdict aim inner (status.Limit number found)
VerdictAt aim from inner status.Done = Verdict aim inner status.Done
VerdictAt aim from inner status.Words = ⊥
VerdictAt aim from inner (status.Unlike how) = ⊥
VerdictAt aim from inner (status.Choice number place) = Verdict aim inner (status.Choice number place)
VerdictAt aim from inner (status.Block number) = Verdict aim inner (status.Block number)
VerdictAt aim from inner status.ReadFault = ⊥
VerdictAt aim from inner status.WriteFault = ⊥
VerdictAt aim from inner status.NoMemory = ⊥

-- the status that a JP2 file has where the words are good and nothing fails
abbrev pub Jp2Verdict : Aim → List ℕ → Status → Type 0
Jp2Verdict aim input s =
    RefusesBoxes aim.limit input s
    ⊎ ((length input ≤ aim.limit) × (boxed : Boxed) × IsCodestream input boxed × VerdictAt aim boxed.from (content input boxed) s)

-- the status that any file has
abbrev pub FileVerdict : Aim → List ℕ → Status → Type 0
FileVerdict aim input s = ((IsJp2 input → ⊥) × Verdict aim input s) ⊎ (IsJp2 input × Jp2Verdict aim input s)

-- what stands under a name after a status, by the whole output file and its length: the file after Done, nothing of it, a front or all of
-- it after a write fault or for want of memory, and else nothing
abbrev pub LeavesFile : Text → List ℕ → Status → ℕ → Meaning → Meaning → Type 0
LeavesFile name file status.Done bytes old new = IsMade name file old new × (bytes ≡ length file)
LeavesFile name file status.WriteFault bytes old new = IsBegun name file old new
LeavesFile name file status.NoMemory bytes old new = IsBegun name file old new
LeavesFile name file status.Words bytes old new = IsUntouched old new
LeavesFile name file (status.Unlike how) bytes old new = IsUntouched old new
LeavesFile name file (status.Rule number place) bytes old new = IsUntouched old new
LeavesFile name file (status.Limit number found) bytes old new = IsUntouched old new
LeavesFile name file (status.Choice number place) bytes old new = IsUntouched old new
LeavesFile name file (status.Block number) bytes old new = IsUntouched old new
LeavesFile name file status.ReadFault bytes old new = IsUntouched old new

-- the output file, by the form that is asked: the input with another codestream in the place of its own, or the codestream alone
abbrev pub file_in : FormChoice → List ℕ → Boxed → List ℕ → List ℕ
file_in form.Keep input boxed out = wrapped input boxed out
file_in form.Codestream input boxed out = out

-- what stands where the codestream in a file has the output `out`, and its blocks are told; nothing where it has none
abbrev pub LeavesAround : Text → FormChoice → Aim → List ℕ → Boxed → List ℕ → Status → ℕ → ℕ → Meaning → Meaning → Type 0
LeavesAround name kind aim input boxed out s blocks bytes old new =
    (IsRewritten aim (content input boxed) out × HasBlocks aim.reduce (content input boxed) blocks × LeavesFile name (file_in kind input boxed out) s bytes old new)
    ⊎ ((s ≡ status.Done → ⊥) × IsUntouched old new)

-- how a run ends on a file with this codestream
pub record EndsAround (name : Text) (work : Work) (kind : FormChoice) (aim : Aim) (input : List ℕ) (boxed : Boxed) (s : Status) (blocks bytes : ℕ) (entries : List TapeEntry) (old new : Meaning) : Type 0 where
  pub within : length input ≤ aim.limit
  pub found : IsCodestream input boxed
  pub verdict : IsVerdict s → VerdictAt aim boxed.from (content input boxed) s
  -- the output codestream after Done, which keeps what a written file keeps, and the blocks that are told
  pub out : List ℕ
  pub tells : TellsMade aim (content input boxed) s blocks out
  pub leaves : LeavesAround name kind aim input boxed out s blocks bytes old new
  pub tape : IsRunTape work aim.reduce (content input boxed) entries
  pub whole : s ≡ status.Done → HasBlocks aim.reduce (content input boxed) (length entries)
  pub taped : IsTapedAfter aim.reduce (content input boxed) s (length entries)

-- how a run ends that comes to no codestream: nothing is made
pub record EndsBefore (limit : ℕ) (input : List ℕ) (s : Status) (blocks : ℕ) (entries : List TapeEntry) (old new : Meaning) : Type 0 where
  pub verdict : IsVerdict s → RefusesBoxes limit input s
  pub none : blocks ≡ 0
  pub tape : entries ≡ []
  pub same : IsUntouched old new

abbrev pub EndsJp2 : Text → Work → FormChoice → Aim → List ℕ → Status → ℕ → ℕ → List TapeEntry → Meaning → Meaning → Type 0
EndsJp2 name work kind aim input s blocks bytes entries old new =
    EndsBefore aim.limit input s blocks entries old new ⊎ ((boxed : Boxed) × EndsAround name work kind aim input boxed s blocks bytes entries old new)

-- boxes that hold positions in the file were kept, after Done
abbrev pub KeepsPositions : FormChoice → List ℕ → Status → Type 0
KeepsPositions kind input s = (s ≡ status.Done) × (kind ≡ form.Keep) × IsJp2 input × HoldsPositions input

-- ---- inner

-- the status names no rule of the input
abbrev pub IsPastRules : Status → Type 0
IsPastRules (status.Rule number place) = ⊥
IsPastRules (status.Limit number found) = Unit {0}
IsPastRules status.Done = Unit {0}
IsPastRules status.Words = Unit {0}
IsPastRules (status.Unlike how) = Unit {0}
IsPastRules (status.Choice number place) = Unit {0}
IsPastRules (status.Block number) = Unit {0}
IsPastRules status.ReadFault = Unit {0}
IsPastRules status.WriteFault = Unit {0}
IsPastRules status.NoMemory = Unit {0}

-- the same status with a rule's place raised
abbrev pub raised : ℕ → Status → Status
raised from (status.Rule number place) = status.Rule number (from + place)
raised from (status.Limit number found) = status.Limit number found
raised from status.Done = status.Done
raised from status.Words = status.Words
raised from (status.Unlike how) = status.Unlike how
raised from (status.Choice number place) = status.Choice number place
raised from (status.Block number) = status.Block number
raised from status.ReadFault = status.ReadFault
raised from status.WriteFault = status.WriteFault
raised from status.NoMemory = status.NoMemory

-- how a whole file is written, or isn't to its end
abbrev pub IsFileEnd : Status → Type 0
IsFileEnd s = (s ≡ status.Done) ⊎ ((s ≡ status.WriteFault) ⊎ (s ≡ status.NoMemory))

-- a plan was written to memory, and then its file around it; or it wasn't, and nothing was made
pub record IsCarriedAround (p : Plan) (name : Text) (work : Work) (kind : FormChoice) (input : List ℕ) (boxed : Boxed) (s : Status) (blocks bytes : ℕ) (entries : List TapeEntry) (old new : Meaning) : Type 0 where
  pub inner : Status
  pub out : List ℕ
  pub is : IsCarriedIn p work inner blocks out entries
  pub ends : ((inner ≡ status.Done → ⊥) × (s ≡ inner) × (bytes ≡ 0) × (new ≡ old))
      ⊎ ((inner ≡ status.Done) × IsFileEnd s × LeavesFile name (file_in kind input boxed out) s bytes old new)
