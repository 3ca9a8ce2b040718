-- Where a file's codestream lies, and what a file is judged before anything is made of it (ITU-T T.800, Annexes A and B; I.4 and I.5.4).
use Rattle.std.specs.Prelude.{◌≡◌, ◌⊎◌, ◌<◌, ◌≤◌, ℕ, ◌+◌, List, length, Option, None, Some}
use Rattle.jx_base.specs.declared.pieces.Block.{Block}
use Rattle.jx_codestream.specs.declared.Stream.{Stream}
use Rattle.jx_jp2.specs.declared.Boxed.{Boxed}
use Rattle.jx_jp2.specs.declared.faults.BoxFault.{BoxFault}
use Rattle.jx_jp2.specs.declared.faults.BoxFault.TheVariants as unboxed
use Rattle.jx_jp2.specs.Codestream.{IsCodestream, IsJp2, IsNextFault, content}
use Rattle.jx_transcode.specs.Judged.{Passes, Violates}
use Rattle.jx_transcode.specs.Rewritten.{Reads}
use Rattle.jx_transcode.specs.declared.source.Source.{Source}
use Rattle.jx_transcode.specs.declared.status.Status.{Status}
use Rattle.jx_transcode.specs.declared.status.Status.TheVariants as status

-- a file's codestream begins at this byte, and these are its bytes: those of the file, or of its first codestream box
abbrev pub HasCodestream : List ℕ → ℕ → List ℕ → Type 0
HasCodestream input from inner =
    ((IsJp2 input → ⊥) × (from ≡ 0) × (inner ≡ input))
    ⊎ (IsJp2 input × (boxed : Boxed) × IsCodestream input boxed × (from ≡ boxed.from) × (inner ≡ content input boxed))

-- the same by its box; a file that is a codestream has none
abbrev pub LiesIn : List ℕ → Option Boxed → ℕ → List ℕ → Type 0
LiesIn input None from inner = (IsJp2 input → ⊥) × (from ≡ 0) × (inner ≡ input)
LiesIn input (Some boxed) from inner = IsJp2 input × IsCodestream input boxed × (from ≡ boxed.from) × (inner ≡ content input boxed)

-- the codestream of a file, as it was found
pub record IsSource (input : List ℕ) (source : Source) : Type 0 where
  pub whole : source.file.now ≡ input
  pub lies : LiesIn input source.boxed source.from source.codestream.now

-- a file of so many bytes at most, with a well-formed codestream within the other limits
pub record IsAccepted (limit : ℕ) (input : List ℕ) (s : Stream) (blocks : List Block) : Type 0 where
  pub within : length input ≤ limit
  pub from : ℕ
  pub inner : List ℕ
  pub has : HasCodestream input from inner
  pub reads : Reads inner s blocks

-- the first rule that is violated: for a JP2 file one of the rules 32 to 35, then those of the codestream; the place is the file's
abbrev pub BreaksRule : ℕ → List ℕ → ℕ → ℕ → Type 0
BreaksRule limit input number place =
    (length input ≤ limit)
    × ((IsJp2 input × IsNextFault input 0 number place)
    ⊎ ((from : ℕ) × (inner : List ℕ) × (at : ℕ) × HasCodestream input from inner × (place ≡ from + at) × Violates inner number at))

-- limit 1, or the limit that the codestream passes first
abbrev pub BreaksLimit : ℕ → List ℕ → ℕ → ℕ → Type 0
BreaksLimit limit input number found =
    ((limit < length input) × (number ≡ 1) × (found ≡ limit + 1))
    ⊎ ((length input ≤ limit) × (from : ℕ) × (inner : List ℕ) × HasCodestream input from inner × Passes inner number found)

abbrev pub IsGoodInput : ℕ → List ℕ → Type 0
IsGoodInput limit input = (s : Stream) × (blocks : List Block) × IsAccepted limit input s blocks

-- why a file is refused; want of memory is free
abbrev pub IsUnfit : ℕ → List ℕ → Status → Type 0
IsUnfit limit input (status.Rule number place) = BreaksRule limit input number place
IsUnfit limit input (status.Limit number found) = BreaksLimit limit input number found
IsUnfit limit input status.NoMemory = Unit {0}
IsUnfit limit input status.Done = ⊥
IsUnfit limit input status.Words = ⊥
IsUnfit limit input (status.Choice number place) = ⊥
IsUnfit limit input (status.Block number) = ⊥
IsUnfit limit input (status.Unlike how) = ⊥
IsUnfit limit input status.ReadFault = ⊥
IsUnfit limit input status.WriteFault = ⊥

-- the status of boxes that can't be told
abbrev pub told_of_boxes : BoxFault → Status
told_of_boxes (unboxed.Rule number place) = status.Rule number place
told_of_boxes unboxed.NoMemory = status.NoMemory
