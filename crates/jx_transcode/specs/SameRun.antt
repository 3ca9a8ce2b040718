-- How a run of `same` ends: two files are read, either of which may be a JP2 file, and one line says whether their codestreams mean the
-- same, or why that can't be said (ITU-T T.800, Annexes A, B, D and E; I.4).
use Rattle.std.specs.Prelude.{◌≡◌, ◌⊎◌, ℕ, List, [], length, Option, IfSome, Result, Ok, Err, codes}
use Rattle.jx_base.specs.declared.pieces.Block.{Block}
use Rattle.jx_io.specs.Device.{Meaning, joined}
use Rattle.jx_cli.specs.SameWords.{Pair}
use Rattle.jx_cli.specs.Words.{Text}
use Rattle.jx_marker.specs.declared.CompSize.{CompSize}
use Rattle.jx_codestream.specs.declared.Stream.{Stream}
use Rattle.jx_plan.specs.Meaning.{meaning_of}
use Rattle.jx_reduce.specs.Reduction.{size_left}
use Rattle.jx_same.specs.Items.{answer_of, factors_value, spot_of_component}
use Rattle.jx_same.specs.declared.answer.Answer.{Answer}
use Rattle.jx_same.specs.declared.answer.Answer.TheVariants as answer
use Rattle.jx_same.specs.declared.answer.Difference.{Difference}
use Rattle.jx_same.specs.declared.answer.Field.TheVariants as field
use Rattle.jx_rounds.specs.Files.{IsUntouched}
use Rattle.jx_transcode.specs.Outcome.{IsVerdict, Says, line_of}
use Rattle.jx_transcode.specs.Progress.{HasRead}
use Rattle.jx_transcode.specs.Sources.{BreaksLimit, BreaksRule, IsAccepted, IsGoodInput}
use Rattle.jx_transcode.specs.declared.status.Status.{Status}
use Rattle.jx_transcode.specs.declared.status.Status.TheVariants as status
use Rattle.jx_transcode.specs.declared.status.Unlike.TheVariants as unlike
use Rattle.jx_rounds.specs.declared.tape.TapeEntry.{TapeEntry}

-- ---- the verdict on two files
-- both are accepted, and this is the answer over the meanings of their codestreams
pub record AreAnswered (limit : ℕ) (first second : List ℕ) (told : Answer) : Type 0 where
  pub stream : Stream
  pub blocks : List Block
  pub accepted : IsAccepted limit first stream blocks
  pub other : Stream
  pub others : List Block
  pub accepted_too : IsAccepted limit second other others
  pub is : told ≡ answer_of stream (meaning_of stream blocks) (meaning_of other others)

-- the status that two files have where nothing fails: the first's refusal, then the second's, then the answer; each may have so many bytes
abbrev pub SameVerdict : ℕ → List ℕ → List ℕ → Status → Type 0
SameVerdict limit first second status.Done = AreAnswered limit first second answer.Same
SameVerdict limit first second (status.Rule number place) = BreaksRule limit first number place
SameVerdict limit first second (status.Limit number found) = BreaksLimit limit first number found
SameVerdict limit first second (status.Unlike (unlike.Differs difference)) = AreAnswered limit first second (answer.Differs difference)
SameVerdict limit first second (status.Unlike (unlike.SecondRule number place)) = IsGoodInput limit first × BreaksRule limit second number place
SameVerdict limit first second (status.Unlike (unlike.SecondLimit number found)) = IsGoodInput limit first × BreaksLimit limit second number found
SameVerdict limit first second status.Words = ⊥
SameVerdict limit first second (status.Choice number place) = ⊥
SameVerdict limit first second (status.Block number) = ⊥
SameVerdict limit first second status.ReadFault = ⊥
SameVerdict limit first second status.WriteFault = ⊥
SameVerdict limit first second status.NoMemory = ⊥

-- a first component of this size, and the same without its d highest resolutions
abbrev pub fewer_difference : ℕ → CompSize → Difference
fewer_difference d size = record { spot = spot_of_component 0 0 field.Sampling; first = factors_value size; second = factors_value (size_left d size) }

-- ---- how a run ends
abbrev pub same_line : Status → List ℕ
same_line status.Done = codes "same\n"
same_line s = line_of s 0 0

-- how many blocks the first file has
pub record HasBlocksOf (limit : ℕ) (first : List ℕ) (count : ℕ) : Type 0 where
  pub stream : Stream
  pub blocks : List Block
  pub accepted : IsAccepted limit first stream blocks
  pub count_is : count ≡ length blocks

-- the blocks that are told: those of the first file after an answer, else none
abbrev pub TellsBlocks : ℕ → List ℕ → Status → ℕ → Type 0
TellsBlocks limit first status.Done blocks = HasBlocksOf limit first blocks
TellsBlocks limit first (status.Unlike (unlike.Differs difference)) blocks = HasBlocksOf limit first blocks
TellsBlocks limit first s blocks = blocks ≡ 0

-- how a run over good words of `same` ends on two inputs, which are what the files of these names hold, where that is told
pub record EndsCompared (names : Pair) (s : Status) (blocks : ℕ) (entries : List TapeEntry) (old new : Meaning) (before now : Option (List ℕ)) : Type 0 where
  pub first : List ℕ
  pub second : List ℕ
  pub told : IfSome (joined (old.holds names.first)) (λ bytes. first ≡ bytes)
  pub told_too : IfSome (joined (old.holds names.second)) (λ bytes. second ≡ bytes)
  pub verdict : IsVerdict s → SameVerdict names.limit first second s
  pub counts : TellsBlocks names.limit first s blocks
  pub said : Says s (same_line s) before now
  pub files : IsUntouched old new
  pub tape : entries ≡ []

-- the first file was refused by a rule or a limit
abbrev pub IsOfFirst : Status → Type 0
IsOfFirst s = ((number : ℕ) × (place : ℕ) × (s ≡ status.Rule number place)) ⊎ ((number : ℕ) × (found : ℕ) × (s ≡ status.Limit number found))

-- some bytes of the file were read, and what is left to be read is the rest of it (nothing, where all was read)
abbrev pub IsStillRead : Option (List ℕ) → Option (List ℕ) → Type 0
IsStillRead file left = (bytes : List ℕ) × HasRead file left bytes

-- ---- inner: what is known before anything is said
-- the status of a second file that is refused
abbrev pub second_status : Status → Status
second_status (status.Rule number place) = status.Unlike (unlike.SecondRule number place)
second_status (status.Limit number found) = status.Unlike (unlike.SecondLimit number found)
second_status status.NoMemory = status.NoMemory
second_status status.Done = status.Done
second_status status.Words = status.Words
second_status (status.Choice number place) = status.Choice number place
second_status (status.Block number) = status.Block number
second_status (status.Unlike how) = status.Unlike how
second_status status.ReadFault = status.ReadFault
second_status status.WriteFault = status.WriteFault

-- the status of an answer, or where memory was refused
abbrev pub answer_status : {E : Type 0} → Result Answer E → Status
answer_status (Ok answer.Same) = status.Done
answer_status (Ok (answer.Differs difference)) = status.Unlike (unlike.Differs difference)
answer_status (Err e) = status.NoMemory

-- a codestream is answered by the second file
pub record IsAnsweredBy (s : Stream) (blocks : List Block) (limit : ℕ) (second : List ℕ) (told : Answer) : Type 0 where
  pub other : Stream
  pub others : List Block
  pub accepted : IsAccepted limit second other others
  pub is : told ≡ answer_of s (meaning_of s blocks) (meaning_of other others)

-- the status of a second file beside a codestream; a fault of reading and want of memory are free
abbrev pub SecondVerdict : Stream → List Block → ℕ → List ℕ → Status → Type 0
SecondVerdict s blocks limit second status.Done = IsAnsweredBy s blocks limit second answer.Same
SecondVerdict s blocks limit second (status.Unlike (unlike.Differs difference)) = IsAnsweredBy s blocks limit second (answer.Differs difference)
SecondVerdict s blocks limit second (status.Unlike (unlike.SecondRule number place)) = BreaksRule limit second number place
SecondVerdict s blocks limit second (status.Unlike (unlike.SecondLimit number found)) = BreaksLimit limit second number found
SecondVerdict s blocks limit second status.ReadFault = Unit {0}
SecondVerdict s blocks limit second status.NoMemory = Unit {0}
SecondVerdict s blocks limit second status.Words = ⊥
SecondVerdict s blocks limit second (status.Rule number place) = ⊥
SecondVerdict s blocks limit second (status.Limit number found) = ⊥
SecondVerdict s blocks limit second (status.Choice number place) = ⊥
SecondVerdict s blocks limit second (status.Block number) = ⊥
SecondVerdict s blocks limit second status.WriteFault = ⊥

pub record IsSecondTold (limit : ℕ) (name : Text) (s : Stream) (blocks : List Block) (t : Status) (old new : Meaning) : Type 0 where
  pub second : List ℕ
  pub told : IfSome (joined (old.holds name)) (λ bytes. second ≡ bytes)
  pub verdict : SecondVerdict s blocks limit second t
  pub files : IsUntouched old new

-- the blocks that are told, by how many the first file has
abbrev pub blocks_after : Status → ℕ → ℕ
blocks_after status.Done count = count
blocks_after (status.Unlike (unlike.Differs difference)) count = count
blocks_after (status.Unlike (unlike.SecondRule number place)) count = 0
blocks_after (status.Unlike (unlike.SecondLimit number found)) count = 0
blocks_after status.Words count = 0
blocks_after (status.Rule number place) count = 0
blocks_after (status.Limit number found) count = 0
blocks_after (status.Choice number place) count = 0
blocks_after (status.Block number) count = 0
blocks_after status.ReadFault count = 0
blocks_after status.WriteFault count = 0
blocks_after status.NoMemory count = 0

-- what is known of both files
pub record IsToTell (names : Pair) (s : Status) (count : ℕ) (old new : Meaning) : Type 0 where
  pub first : List ℕ
  pub second : List ℕ
  pub told : IfSome (joined (old.holds names.first)) (λ bytes. first ≡ bytes)
  pub told_too : IfSome (joined (old.holds names.second)) (λ bytes. second ≡ bytes)
  pub verdict : IsVerdict s → SameVerdict names.limit first second s
  pub counts : TellsBlocks names.limit first s (blocks_after s count)
  pub files : IsUntouched old new
