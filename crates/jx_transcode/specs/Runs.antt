-- How a run ends, by its words: those of `transcode`, those of `make`, those of `boxes`, those of `same`, those of `show`, and others.
use Rattle.std.specs.Prelude.{◌≡◌, ℕ, true, false, List, Option}
use Rattle.jx_io.specs.Device.{Meaning}
use Rattle.jx_layers.specs.declared.StreamFacts.{StreamFacts}
use Rattle.jx_layers.specs.Rule.{Rule}
use Rattle.jx_cli.specs.BoxesWords.{boxes_of, is_boxes}
use Rattle.jx_cli.specs.MakeWords.{is_make, make_of}
use Rattle.jx_cli.specs.SameWords.{is_same, same_of}
use Rattle.jx_cli.specs.ShowWords.{is_show, show_of}
use Rattle.jx_cli.specs.Words.{Text, is_good, request_of}
use Rattle.jx_transcode.specs.BoxesRun.{EndsListed}
use Rattle.jx_transcode.specs.MakeRun.{EndsMade}
use Rattle.jx_transcode.specs.Outcome.{EndsAtWords}
use Rattle.jx_transcode.specs.SameRun.{EndsCompared}
use Rattle.jx_transcode.specs.ShowRun.{EndsShown}
use Rattle.jx_transcode.specs.TranscodeRun.{Ends}
use Rattle.jx_transcode.specs.declared.status.Status.{Status}
use Rattle.jx_rounds.specs.declared.tape.TapeEntry.{TapeEntry}

-- how a run ends
pub record Outcome (words : List Text) (rule : List ℕ → StreamFacts → Option Rule) (s : Status) (blocks : ℕ) (entries : List TapeEntry) (old new : Meaning) (before now : Option (List ℕ)) : Type 0 where
  pub good : is_good words ≡ true → Ends (request_of words) rule s blocks entries old new before now
  pub made : is_make words ≡ true → EndsMade (make_of words) rule s blocks entries old new before now
  pub listed : is_boxes words ≡ true → EndsListed (boxes_of words) s blocks entries old new before now
  pub compared : is_same words ≡ true → EndsCompared (same_of words) s blocks entries old new before now
  pub shown : is_show words ≡ true → EndsShown (show_of words) s blocks entries old new before now
  pub bad : is_good words ≡ false → is_make words ≡ false → is_boxes words ≡ false → is_same words ≡ false → is_show words ≡ false → EndsAtWords s blocks entries old new before now
