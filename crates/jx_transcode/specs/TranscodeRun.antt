-- How a run of `transcode` ends: a codestream, or that in a JP2 file, is rewritten to another file, and one line says how long that is, or
-- why there is none.
use Rattle.std.specs.Prelude.{◌≡◌, ◌↔◌, ℕ, Bool, List, length, Option, IfSome, IsTrue}
use Rattle.jx_io.specs.Device.{Meaning, joined}
use Rattle.jx_layers.specs.declared.StreamFacts.{StreamFacts}
use Rattle.jx_layers.specs.Rule.{Rule}
use Rattle.jx_cli.specs.Words.{Request, Text}
use Rattle.jx_jp2.specs.Codestream.{IsJp2}
use Rattle.jx_options.specs.Work.{Work}
use Rattle.jx_transcode.specs.Aims.{Aim}
use Rattle.jx_transcode.specs.Jp2Run.{EndsJp2, KeepsPositions}
use Rattle.jx_transcode.specs.Outcome.{IsVerdict, Leaves, Says, Verdict, line_of}
use Rattle.jx_transcode.specs.Rewritten.{HasBlocks}
use Rattle.jx_transcode.specs.RunTapes.{IsRunTape, IsTapedAfter}
use Rattle.jx_transcode.specs.declared.status.Status.{Status}
use Rattle.jx_transcode.specs.declared.status.Status.TheVariants as status
use Rattle.jx_rounds.specs.declared.tape.TapeEntry.{TapeEntry}

-- what good words ask for, with the rule that the planners make of their words of layers
abbrev pub aim_of : Request → (List ℕ → StreamFacts → Option Rule) → Aim
aim_of request rule = record { wanted = request.wanted; reduce = request.reduce; limit = request.limit; rule = rule request.wanted.layers }

-- how a run ends on a codestream
pub record EndsBare (name : Text) (work : Work) (aim : Aim) (input : List ℕ) (s : Status) (blocks bytes : ℕ) (entries : List TapeEntry) (old new : Meaning) : Type 0 where
  pub verdict : IsVerdict s → Verdict aim input s
  pub leaves : Leaves name aim input s blocks bytes old new
  -- the tape has the entries of the first blocks, in their order, each once, by workers and inside windows that were asked for
  pub tape : IsRunTape work aim.reduce input entries
  -- and those of all blocks after Done
  pub whole : s ≡ status.Done → HasBlocks aim.reduce input (length entries)
  -- and how many after each status
  pub taped : IsTapedAfter aim.reduce input s (length entries)

-- how a run over good words ends on an input, which is what the file named IN holds at the beginning, where that is told
pub record EndsOn (request : Request) (rule : List ℕ → StreamFacts → Option Rule) (input : List ℕ) (s : Status) (blocks bytes : ℕ) (entries : List TapeEntry) (old new : Meaning) : Type 0 where
  pub told : IfSome (joined (old.holds request.from)) (λ bytes. input ≡ bytes)
  pub bare : (IsJp2 input → ⊥) → EndsBare request.to request.work (aim_of request rule) input s blocks bytes entries old new
  pub jp2 : IsJp2 input → EndsJp2 request.to request.work request.form (aim_of request rule) input s blocks bytes entries old new

-- how a run over good words ends
pub record Ends (request : Request) (rule : List ℕ → StreamFacts → Option Rule) (s : Status) (blocks : ℕ) (entries : List TapeEntry) (old new : Meaning) (before now : Option (List ℕ)) : Type 0 where
  pub input : List ℕ
  pub bytes : ℕ
  pub files : EndsOn request rule input s blocks bytes entries old new
  pub said : Says s (line_of s blocks bytes) before now

-- it is told whether boxes of the input that hold positions in the file were kept, where the device tells what the input is
abbrev pub TellsPositions : Request → Bool → Status → Meaning → Type 0
TellsPositions request told s old = IfSome (joined (old.holds request.from)) (λ bytes. IsTrue told ↔ KeepsPositions request.form bytes s)
