-- How the process ends: with the number of the status of a run over its words, with the planners of layers that there are, or with help.
use Rattle.std.specs.Prelude.{◌≡◌, ◌⊎◌, ◌<◌, ◌++◌, ℕ, List, [], map, true, false, Option, Result, Ok, Err, string_bytes}
use Rattle.std.specs.Option.{option_map}
use Rattle.std.specs.declared.string.String.{String}
use Rattle.std.specs.declared.vec.IntoIter.{IntoIter}
use Rattle.std.specs.Vec.Iter.{into_iter_items}
use Rattle.jx_io.specs.Causes.{Rose}
use Rattle.jx_io.specs.Device.{Meaning}
use Rattle.jx_layers.specs.declared.StreamFacts.{StreamFacts}
use Rattle.jx_layers.specs.Rule.{Rule}
use Rattle.jx_transcode.specs.declared.status.Status.{Status}
use Rattle.jx_transcode.specs.declared.status.Status.TheVariants as ending
use Rattle.jx_rounds.specs.declared.tape.TapeEntry.{TapeEntry}
use Rattle.jx_cli.specs.BoxesWords.{is_boxes}
use Rattle.jx_cli.specs.SameWords.{is_same}
use Rattle.jx_cli.specs.ShowWords.{is_show}
use Rattle.jx_cli.specs.Words.{Text, is_good}
use Rattle.jx_messages.specs.Help.{asks_help}
use Rattle.jx_messages.specs.Text.{EndsLine}
use Rattle.jx_transcode.specs.Outcome.{EndsAsReadFault, IsVerdict, number_of}
use Rattle.jx_transcode.specs.Runs.{Outcome}

-- the words that the system gives: all of them, in their order; none where one is no text
abbrev pub words_in : {A Z E : Type 0} → Result (IntoIter (String A) Z) E → List Text
words_in (Ok args) = map string_bytes (into_iter_items args)
words_in (Err error) = []

-- the counts of faults of reading, of writing and of saying, before and after, as a status tells them
pub record AreCounted (words : List Text) (s : Status) (before now : Option (List ℕ)) (reads reads_now writes writes_now says says_now : ℕ) : Type 0 where
  pub read : s ≡ ending.ReadFault → Rose reads reads_now
  pub write : s ≡ ending.WriteFault → Rose writes writes_now ⊎ Rose says says_now
  pub read_rose : reads < reads_now → EndsAsReadFault s before now says says_now
  pub write_rose : writes < writes_now → s ≡ ending.WriteFault
  pub unsaid : says < says_now → s ≡ ending.WriteFault
  pub complete : (Rose reads reads_now → ⊥) → (Rose writes writes_now → ⊥) → (Rose says says_now → ⊥) → IsVerdict s ⊎ (s ≡ ending.NoMemory)
  pub idle : is_good words ≡ false → is_boxes words ≡ false → is_same words ≡ false → is_show words ≡ false → reads_now ≡ reads
  pub unwritten : is_good words ≡ false → writes_now ≡ writes

-- the number is that of a status with which a run over these words ends
pub record IsEnded (words : List Text) (rule : List ℕ → StreamFacts → Option Rule) (number : ℕ) (old new : Meaning) (before now : Option (List ℕ)) (reads reads_now writes writes_now says says_now : ℕ) : Type 0 where
  pub status : Status
  pub blocks : ℕ
  pub tape : List TapeEntry
  pub outcome : Outcome words rule status blocks tape old new before now
  pub counted : AreCounted words status before now reads reads_now writes writes_now says says_now
  pub number_is : number ≡ number_of status

-- with some planners of layers
pub record IsEndedBySome (words : List Text) (number : ℕ) (old new : Meaning) (before now : Option (List ℕ)) (reads reads_now writes writes_now says says_now : ℕ) : Type 0 where
  pub rule : List ℕ → StreamFacts → Option Rule
  pub ended : IsEnded words rule number old new before now reads reads_now writes writes_now says says_now

-- the status tells of a fault of saying, exactly where its count rose
pub record TellsUnsaid (status : Status) (says says_now : ℕ) : Type 0 where
  pub failed : status ≡ ending.WriteFault → Rose says says_now
  pub unsaid : says < says_now → status ≡ ending.WriteFault

-- a text was said whole, or nothing was, and the number is that of the status
pub record IsSaid (status : Status) (text : Text) (before now : Option (List ℕ)) : Type 0 where
  pub said : status ≡ ending.Done → now ≡ option_map (λ said. said ++ text) before
  pub unsaid : (status ≡ ending.WriteFault) ⊎ (status ≡ ending.NoMemory) → now ≡ before
  pub one_of : (status ≡ ending.Done) ⊎ ((status ≡ ending.WriteFault) ⊎ (status ≡ ending.NoMemory))

-- the words ask for help, and lines of it were said, or couldn't be; no file was touched
pub record IsHelped (words : List Text) (number : ℕ) (old new : Meaning) (before now : Option (List ℕ)) (reads reads_now writes writes_now says says_now : ℕ) : Type 0 where
  pub asked : asks_help words ≡ true
  pub untouched : new ≡ old
  pub text : Text
  pub lines : EndsLine text
  pub status : Status
  pub said : IsSaid status text before now
  pub still : (reads_now ≡ reads) × (writes_now ≡ writes)
  pub counted : TellsUnsaid status says says_now
  pub number_is : number ≡ number_of status
