-- How a run of `boxes` ends: the boxes of a JP2 file are said, a line each, or one line says why they can't be (ITU-T T.800, I.4).
use Rattle.std.specs.Prelude.{◌≡◌, ◌⊎◌, ◌<◌, ◌≤◌, ℕ, ◌+◌, List, length, Option}
use Rattle.jx_io.specs.Device.{Meaning}
use Rattle.jx_cli.specs.BoxesWords.{Boxes}
use Rattle.jx_jp2.specs.Codestream.{IsJp2}
use Rattle.jx_jp2.specs.Lines.{HasLines}
use Rattle.jx_jp2.specs.Trees.{IsTree, IsTreeBroken, Tree}
use Rattle.jx_transcode.specs.LinesRun.{EndsInLines}
use Rattle.jx_transcode.specs.declared.status.Status.{Status}
use Rattle.jx_transcode.specs.declared.status.Status.TheVariants as status
use Rattle.jx_rounds.specs.declared.tape.TapeEntry.{TapeEntry}

-- rule 36: the file isn't JP2; else the first box that breaks one of the rules 32 to 34
abbrev pub BreaksBoxes : List ℕ → ℕ → ℕ → Type 0
BreaksBoxes input number place = ((IsJp2 input → ⊥) × (number ≡ 36) × (place ≡ 0)) ⊎ (IsJp2 input × IsTreeBroken input number place)

-- the status that an input has where nothing fails: limit 1, by the most bytes that it may have, then rule 36, then the rules 32 to 34
abbrev pub BoxesVerdict : ℕ → List ℕ → Status → Type 0
BoxesVerdict limit input status.Done = (length input ≤ limit) × IsJp2 input × (tree : Tree) × IsTree input tree
BoxesVerdict limit input (status.Rule number place) = (length input ≤ limit) × BreaksBoxes input number place
BoxesVerdict limit input (status.Limit number found) = (limit < length input) × (number ≡ 1) × (found ≡ limit + 1)
BoxesVerdict limit input status.Words = ⊥
BoxesVerdict limit input (status.Unlike how) = ⊥
BoxesVerdict limit input (status.Choice number place) = ⊥
BoxesVerdict limit input (status.Block number) = ⊥
BoxesVerdict limit input status.ReadFault = ⊥
BoxesVerdict limit input status.WriteFault = ⊥
BoxesVerdict limit input status.NoMemory = ⊥

-- how a run over good words of `boxes` ends: after Done the lines of all boxes are said
abbrev pub EndsListed : Boxes → Status → ℕ → List TapeEntry → Meaning → Meaning → Option (List ℕ) → Option (List ℕ) → Type 0
EndsListed asked = EndsInLines (BoxesVerdict asked.limit) HasLines asked.name

-- ---- inner: what is known of the bytes that were read, before anything is said

-- the lines of all their boxes
pub record IsListed (limit : ℕ) (input text : List ℕ) : Type 0 where
  pub within : length input ≤ limit
  pub is : IsJp2 input
  pub lines : HasLines input text

-- why there are none; want of memory is free
abbrev pub IsUnlisted : ℕ → List ℕ → Status → Type 0
IsUnlisted limit input (status.Rule number place) = BoxesVerdict limit input (status.Rule number place)
IsUnlisted limit input (status.Limit number found) = BoxesVerdict limit input (status.Limit number found)
IsUnlisted limit input status.NoMemory = Unit {0}
IsUnlisted limit input status.Done = ⊥
IsUnlisted limit input status.Words = ⊥
IsUnlisted limit input (status.Unlike how) = ⊥
IsUnlisted limit input (status.Choice number place) = ⊥
IsUnlisted limit input (status.Block number) = ⊥
IsUnlisted limit input status.ReadFault = ⊥
IsUnlisted limit input status.WriteFault = ⊥
