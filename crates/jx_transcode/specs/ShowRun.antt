-- How a run of `show` ends: what a file's codestream is, in lines or as a JSON object, or one line says why that can't be said (ITU-T T.800,
-- Annexes A and B; I.4).
use Rattle.std.specs.Prelude.{◌≡◌, ℕ, Bool, List, Option, None, Some}
use Rattle.jx_base.specs.declared.pieces.Block.{Block}
use Rattle.jx_io.specs.Device.{Meaning}
use Rattle.jx_cli.specs.ShowWords.{Show}
use Rattle.jx_codestream.specs.declared.Stream.{Stream}
use Rattle.jx_jp2.specs.Codestream.{IsJp2}
use Rattle.jx_jp2.specs.Names.{HasNames, brand_of, brand_text}
use Rattle.jx_show.specs.Facts.{facts_of}
use Rattle.jx_show.specs.File.{file_text}
use Rattle.jx_transcode.specs.LinesRun.{EndsInLines}
use Rattle.jx_transcode.specs.Sources.{BreaksLimit, BreaksRule, IsAccepted, IsGoodInput}
use Rattle.jx_transcode.specs.declared.status.Status.{Status}
use Rattle.jx_transcode.specs.declared.status.Status.TheVariants as status
use Rattle.jx_rounds.specs.declared.tape.TapeEntry.{TapeEntry}

-- the status that an input has where nothing fails: Done, or the rule that it violates or limit that it passes first; it may have so many bytes
abbrev pub ShowVerdict : ℕ → List ℕ → Status → Type 0
ShowVerdict limit input status.Done = IsGoodInput limit input
ShowVerdict limit input (status.Rule number place) = BreaksRule limit input number place
ShowVerdict limit input (status.Limit number found) = BreaksLimit limit input number found
ShowVerdict limit input status.Words = ⊥
ShowVerdict limit input (status.Unlike how) = ⊥
ShowVerdict limit input (status.Choice number place) = ⊥
ShowVerdict limit input (status.Block number) = ⊥
ShowVerdict limit input status.ReadFault = ⊥
ShowVerdict limit input status.WriteFault = ⊥
ShowVerdict limit input status.NoMemory = ⊥

-- the names of a JP2 file's boxes; a codestream has none
abbrev pub HasBoxes : List ℕ → Option (List ℕ) → Type 0
HasBoxes input None = IsJp2 input → ⊥
HasBoxes input (Some names) = IsJp2 input × HasNames input names

-- what is told of an input: the facts of its codestream, behind its brand and its boxes' names
pub record IsShown (limit : ℕ) (json : Bool) (input text : List ℕ) : Type 0 where
  pub stream : Stream
  pub blocks : List Block
  pub accepted : IsAccepted limit input stream blocks
  pub names : Option (List ℕ)
  pub boxes : HasBoxes input names
  pub is : text ≡ file_text json names (brand_text (brand_of input)) (facts_of stream blocks)

-- how a run over good words of `show` ends
abbrev pub EndsShown : Show → Status → ℕ → List TapeEntry → Meaning → Meaning → Option (List ℕ) → Option (List ℕ) → Type 0
EndsShown asked = EndsInLines (ShowVerdict asked.limit) (IsShown asked.limit asked.json) asked.name
