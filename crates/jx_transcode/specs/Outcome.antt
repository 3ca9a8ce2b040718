-- What becomes of an input: its verdict, the line said, and what stands afterwards; and how a run ends over words that are no command.
use Rattle.std.specs.Prelude.{◌≡◌, ◌⊎◌, ℕ, true, ◌+◌, ◌<◌, ◌≤◌, List, [], ◌++◌, length, Option, codes}
use Rattle.std.specs.Option.{option_map}
use Rattle.std.specs.Fmt.{decimal}
use Rattle.jx_io.specs.Causes.{Rose}
use Rattle.jx_io.specs.Device.{Meaning}
use Rattle.jx_transcode.specs.SameLines.{unlike_line, unlike_number}
use Rattle.jx_transcode.specs.declared.status.Status.{Status}
use Rattle.jx_cli.specs.Words.{Text}
use Rattle.jx_rounds.specs.Files.{IsMade, IsStopped, IsUnfinished, IsUntouched}
use Rattle.jx_rounds.specs.declared.tape.TapeEntry.{TapeEntry}
use Rattle.jx_transcode.specs.Rewritten.{HasBlocks, IsBad, IsCut, IsCutByBlock, IsFrontOf, IsIrreducible, IsKept, IsRewritten, IsTooLongAt, IsUnplanned}
use Rattle.jx_plan.specs.declared.faults.PlanFault.{PlanFault}
use Rattle.jx_transcode.specs.Aims.{Aim}
use Rattle.jx_transcode.specs.Judged.{Violates, Passes}
use Rattle.jx_transcode.specs.declared.status.Status.TheVariants as status
use Rattle.jx_plan.specs.declared.faults.PlanFault.TheVariants as unplanned

-- the number with which the program ends
abbrev pub number_of : Status → ℕ
number_of status.Done = 0
number_of status.Words = 2
number_of (status.Unlike how) = unlike_number how
number_of (status.Rule number place) = 3
number_of (status.Limit number found) = 4
number_of status.ReadFault = 7
number_of status.WriteFault = 8
number_of status.NoMemory = 9
number_of (status.Choice number place) = 5
number_of (status.Block number) = 6

-- the status speaks of the words and the input, and not of a fault or of memory
abbrev pub IsVerdict : Status → Type 0
IsVerdict status.Done = Unit {0}
IsVerdict status.Words = Unit {0}
IsVerdict (status.Unlike how) = Unit {0}
IsVerdict (status.Rule number place) = Unit {0}
IsVerdict (status.Limit number found) = Unit {0}
IsVerdict (status.Choice number place) = Unit {0}
IsVerdict (status.Block number) = Unit {0}
IsVerdict status.ReadFault = ⊥
IsVerdict status.WriteFault = ⊥
IsVerdict status.NoMemory = ⊥

-- limit 1 is passed, or a limit that is passed first in the headers or the tile data; an input may have so many bytes
abbrev pub PassesLimit : ℕ → List ℕ → ℕ → ℕ → Type 0
PassesLimit limit input number found =
    ((limit < length input) × (number ≡ 1) × (found ≡ limit + 1))
    ⊎ ((length input ≤ limit) × Passes input number found)

-- the status that an input has where the words are good and nothing fails: limit 1, then the first rule that it violates or limit that it
-- passes in its headers or its tile data, then choice 8 and choice 9; then of what is left of it choice 1, choice 3, choice 2, choice 6, limit
-- 7, choice 4 and choice 5, then tile by tile a block that is coded anew and has a wrong segmentation symbol, and a tile-part that would be
-- too long
abbrev pub Verdict : Aim → List ℕ → Status → Type 0
Verdict aim input status.Done = (length input ≤ aim.limit) × (out : List ℕ) × IsRewritten aim input out
Verdict aim input (status.Rule number place) = (length input ≤ aim.limit) × Violates input number place
Verdict aim input (status.Limit number found) = PassesLimit aim.limit input number found ⊎ ((length input ≤ aim.limit) × IsUnplanned aim input (unplanned.Limit number found))
Verdict aim input (status.Choice number place) = (length input ≤ aim.limit) × (((number ≡ 7) × IsTooLongAt aim input place) ⊎ (IsUnplanned aim input (unplanned.Choice number place) ⊎ IsIrreducible aim.reduce input number place))
Verdict aim input (status.Block number) = (length input ≤ aim.limit) × IsBad aim input number
Verdict aim input status.Words = ⊥
Verdict aim input (status.Unlike how) = ⊥
Verdict aim input status.ReadFault = ⊥
Verdict aim input status.WriteFault = ⊥
Verdict aim input status.NoMemory = ⊥

-- the line that a status has, with its numbers: those of the code-blocks and of the bytes written after Done
abbrev pub line_of : Status → ℕ → ℕ → List ℕ
line_of status.Done blocks bytes = codes "done: " ++ (decimal blocks ++ (codes " blocks, " ++ (decimal bytes ++ codes " bytes\n")))
line_of status.Words blocks bytes = codes "words\n"
line_of (status.Unlike how) blocks bytes = unlike_line how
line_of (status.Rule number place) blocks bytes = codes "rule " ++ (decimal number ++ (codes " at " ++ (decimal place ++ codes "\n")))
line_of (status.Limit number found) blocks bytes = codes "limit " ++ (decimal number ++ (codes ": " ++ (decimal found ++ codes "\n")))
line_of (status.Choice number place) blocks bytes = codes "choice " ++ (decimal number ++ (codes " at " ++ (decimal place ++ codes "\n")))
line_of (status.Block number) blocks bytes = codes "block " ++ (decimal number ++ codes "\n")
line_of status.ReadFault blocks bytes = codes "read fault\n"
line_of status.WriteFault blocks bytes = []
line_of status.NoMemory blocks bytes = codes "no memory\n"

-- the text so far with this line at its end, where it is told
abbrev pub said_after : List ℕ → Option (List ℕ) → Option (List ℕ)
said_after line said = option_map (λ text. text ++ line) said

-- what was said: the line; nothing after a write fault; and for want of memory either
abbrev pub Says : Status → List ℕ → Option (List ℕ) → Option (List ℕ) → Type 0
Says status.WriteFault line old new = new ≡ old
Says status.NoMemory line old new = (new ≡ old) ⊎ (new ≡ said_after line old)
Says status.Done line old new = new ≡ said_after line old
Says status.Words line old new = new ≡ said_after line old
Says (status.Unlike how) line old new = new ≡ said_after line old
Says (status.Rule number place) line old new = new ≡ said_after line old
Says (status.Limit number found) line old new = new ≡ said_after line old
Says (status.Choice number place) line old new = new ≡ said_after line old
Says (status.Block number) line old new = new ≡ said_after line old
Says status.ReadFault line old new = new ≡ said_after line old

-- what stands of an output: nothing; a front of the whole file, or of whole rounds where no index is asked, that wasn't finished; or, under its
-- name, the whole file and nothing less
abbrev pub LeavesBegun : Text → Aim → List ℕ → Meaning → Meaning → Type 0
LeavesBegun name aim input old new =
    IsUntouched old new
    ⊎ (((bytes : List ℕ) × (IsFrontOf aim input bytes ⊎ IsRewritten aim input bytes) × IsUnfinished name bytes old new)
    ⊎ ((out : List ℕ) × IsRewritten aim input out × IsMade name out old new))

-- nothing was made, and the input wasn't accepted
abbrev pub IsRefused : ℕ → Meaning → Meaning → Type 0
IsRefused blocks old new = (blocks ≡ 0) × IsUntouched old new

-- the input was accepted, and its output may have been begun
pub record IsAborted (name : Text) (aim : Aim) (input : List ℕ) (blocks : ℕ) (old new : Meaning) : Type 0 where
  pub within : length input ≤ aim.limit
  pub count : HasBlocks aim.reduce input blocks
  pub stands : LeavesBegun name aim input old new

-- nothing was made of an input that isn't planned
pub record IsOver (aim : Aim) (input : List ℕ) (blocks : ℕ) (old new : Meaning) : Type 0 where
  pub within : length input ≤ aim.limit
  pub why : PlanFault
  pub is : IsUnplanned aim input why
  pub caused : why ≡ unplanned.NoMemory → ⊥
  pub count : HasBlocks aim.reduce input blocks
  pub same : IsUntouched old new

-- nor of one out of which so many resolutions can't be left
pub record IsOverAll (aim : Aim) (input : List ℕ) (blocks : ℕ) (old new : Meaning) : Type 0 where
  pub within : length input ≤ aim.limit
  pub number : ℕ
  pub place : ℕ
  pub is : IsIrreducible aim.reduce input number place
  pub count : HasBlocks 0 input blocks
  pub same : IsUntouched old new

-- nothing was made, or the input was accepted and its output may have been begun
abbrev pub IsCutShort : Text → Aim → List ℕ → ℕ → Meaning → Meaning → Type 0
IsCutShort name aim input blocks old new = IsRefused blocks old new ⊎ (IsOver aim input blocks old new ⊎ (IsOverAll aim input blocks old new ⊎ IsAborted name aim input blocks old new))

-- the file was made whole
pub record IsWhole (name : Text) (aim : Aim) (input : List ℕ) (blocks bytes : ℕ) (old new : Meaning) : Type 0 where
  pub out : List ℕ
  pub is : IsRewritten aim input out
  pub made : IsMade name out old new
  pub kept : IsKept aim input out
  pub count : HasBlocks aim.reduce input blocks
  pub long : bytes ≡ length out

-- where an index is asked, nothing was made of a file that can't be written to its end
abbrev pub IsUnbegun : Aim → Meaning → Meaning → Type 0
IsUnbegun aim old new = (aim.wanted.marks.tlm ≡ true) × IsUntouched old new

-- a tile-part was too long: the rounds before its tile's were written
pub record IsStoppedAt (name : Text) (aim : Aim) (input : List ℕ) (tile blocks : ℕ) (old new : Meaning) : Type 0 where
  pub stands : ((bytes : List ℕ) × IsCut aim input tile bytes × IsStopped name bytes old new) ⊎ IsUnbegun aim old new
  pub count : HasBlocks aim.reduce input blocks

-- a block was wrong: the rounds before that of its tile were written
pub record IsStoppedByBlock (name : Text) (aim : Aim) (input : List ℕ) (number blocks : ℕ) (old new : Meaning) : Type 0 where
  pub stands : ((bytes : List ℕ) × IsCutByBlock aim input number bytes × IsStopped name bytes old new) ⊎ IsUnbegun aim old new
  pub count : HasBlocks aim.reduce input blocks

-- limit 7 alone is passed by an input that was accepted
abbrev pub IsLimited : ℕ → List ℕ → ℕ → ℕ → Type 0
IsLimited d input number blocks = ((number ≡ 7) × HasBlocks d input blocks) ⊎ ((number < 7) × (blocks ≡ 0))

-- choice 8 and choice 9 are of the whole input, the others of what is left of it
abbrev pub IsChosen : ℕ → List ℕ → ℕ → ℕ → Type 0
IsChosen d input number blocks = (((number ≡ 8 → ⊥) × (number ≡ 9 → ⊥)) × HasBlocks d input blocks) ⊎ (((number ≡ 8) ⊎ (number ≡ 9)) × HasBlocks 0 input blocks)

-- what stands after a status, the blocks that are told, and the bytes of the output after Done
abbrev pub Leaves : Text → Aim → List ℕ → Status → ℕ → ℕ → Meaning → Meaning → Type 0
Leaves name aim input status.Done blocks bytes old new = IsWhole name aim input blocks bytes old new
Leaves name aim input status.Words blocks bytes old new = IsRefused blocks old new
Leaves name aim input (status.Unlike how) blocks bytes old new = ⊥
Leaves name aim input (status.Rule number place) blocks bytes old new = IsRefused blocks old new
Leaves name aim input (status.Limit number found) blocks bytes old new = IsLimited aim.reduce input number blocks × IsUntouched old new
Leaves name aim input (status.Choice number place) blocks bytes old new =
    ((number ≡ 7) × IsStoppedAt name aim input place blocks old new) ⊎ ((number ≡ 7 → ⊥) × IsChosen aim.reduce input number blocks × IsUntouched old new)
Leaves name aim input (status.Block number) blocks bytes old new = IsStoppedByBlock name aim input number blocks old new
Leaves name aim input status.ReadFault blocks bytes old new = IsRefused blocks old new
Leaves name aim input status.WriteFault blocks bytes old new = IsCutShort name aim input blocks old new
Leaves name aim input status.NoMemory blocks bytes old new = IsCutShort name aim input blocks old new

-- how a run over other words ends
pub record EndsAtWords (s : Status) (blocks : ℕ) (entries : List TapeEntry) (old new : Meaning) (before now : Option (List ℕ)) : Type 0 where
  pub words : (s ≡ status.Words) ⊎ ((s ≡ status.WriteFault) ⊎ (s ≡ status.NoMemory))
  pub files : new ≡ old
  pub none : blocks ≡ 0
  pub tape : entries ≡ []
  pub said : Says s (line_of s 0 0) before now

-- the status after a line was said: the same where it was said; a write fault exactly where the sink's count rose; and
-- else want of memory
abbrev pub EndsAs : Status → List ℕ → Status → Option (List ℕ) → Option (List ℕ) → ℕ → ℕ → Type 0
EndsAs s line late before now fault_before fault_now =
    ((late ≡ s) × Says s line before now × (fault_now ≡ fault_before))
    ⊎ (((late ≡ status.WriteFault) × (now ≡ before) × Rose fault_before fault_now)
    ⊎ ((late ≡ status.NoMemory) × (now ≡ before) × (fault_now ≡ fault_before)))

-- the status where a call failed that opens or reads the input. A line that can't be printed comes after it. So does want
-- of memory for that line: then nothing was printed
abbrev pub EndsAsReadFault : Status → Option (List ℕ) → Option (List ℕ) → ℕ → ℕ → Type 0
EndsAsReadFault s before now fault_before fault_now =
    (s ≡ status.ReadFault)
    ⊎ (((s ≡ status.WriteFault) × Rose fault_before fault_now) ⊎ ((s ≡ status.NoMemory) × (now ≡ before)))

-- the status where the input isn't there: to open it may fail for want of memory too
abbrev pub EndsUnread : Status → ℕ → ℕ → Type 0
EndsUnread s fault_before fault_now =
    (s ≡ status.ReadFault) ⊎ (((s ≡ status.WriteFault) × Rose fault_before fault_now) ⊎ (s ≡ status.NoMemory))
