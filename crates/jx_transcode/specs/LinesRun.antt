-- How a run ends that reads one file and says lines of it, or one line that says why it can't.
use Rattle.std.specs.Prelude.{◌≡◌, ℕ, List, [], Option, IfSome}
use Rattle.jx_io.specs.Device.{Meaning, joined}
use Rattle.jx_cli.specs.Words.{Text}
use Rattle.jx_rounds.specs.Files.{IsUntouched}
use Rattle.jx_transcode.specs.Outcome.{IsVerdict, Says, line_of}
use Rattle.jx_transcode.specs.declared.status.Status.{Status}
use Rattle.jx_transcode.specs.declared.status.Status.TheVariants as status
use Rattle.jx_rounds.specs.declared.tape.TapeEntry.{TapeEntry}

-- by the statuses that an input may have where nothing fails, and by the lines that it has after Done; the input is what the file of that
-- name holds, where that is told
pub record EndsInLines (has_verdict : List ℕ → Status → Type 0) (has_lines : List ℕ → List ℕ → Type 0) (name : Text) (s : Status) (blocks : ℕ) (entries : List TapeEntry) (old new : Meaning) (before now : Option (List ℕ)) : Type 0 where
  pub input : List ℕ
  pub told : IfSome (joined (old.holds name)) (λ bytes. input ≡ bytes)
  pub verdict : IsVerdict s → has_verdict input s
  -- what is said: the lines after Done, else the status's line
  pub text : List ℕ
  pub lines : s ≡ status.Done → has_lines input text
  pub line : (s ≡ status.Done → ⊥) → text ≡ line_of s 0 0
  pub said : Says s text before now
  pub files : IsUntouched old new
  pub none : blocks ≡ 0
  pub tape : entries ≡ []
