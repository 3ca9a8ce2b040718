-- Runs of `show`.
use Rattle.std.proofs.Common.{◌≡◌, Bool, ℕ, List, Option, refl}
use Rattle.jx_base.specs.declared.pieces.Block.{Block}
use Rattle.jx_io.specs.Device.{Meaning, joined}
use Rattle.jx_cli.specs.ShowWords.{Show}
use Rattle.jx_codestream.specs.declared.Stream.{Stream}
use Rattle.jx_jp2.specs.Names.{brand_of, brand_text}
use Rattle.jx_show.specs.Facts.{facts_of}
use Rattle.jx_show.specs.File.{file_text}
use Rattle.jx_rounds.specs.Files.{IsUntouched}
use Rattle.jx_transcode.specs.Outcome.{IsVerdict, line_of}
use Rattle.jx_transcode.specs.Sources.{IsAccepted, IsUnfit}
use Rattle.jx_transcode.specs.ShowRun.{HasBoxes, IsShown, ShowVerdict}
use Rattle.jx_transcode.specs.declared.status.Status.{Status}
use Rattle.jx_transcode.specs.declared.status.Status.TheVariants as status
use Rattle.jx_transcode.proofs.DoneLemmas.{IsOther, undone}
use Rattle.jx_transcode.proofs.LeftLemmas.{IsFront, short_told}
use Rattle.jx_transcode.proofs.LinesLemmas.{IsToSay}
use Rattle.jx_transcode.proofs.SameLemmas.{IsUnfitInput, unfit_told}

pub shown_of : (limit : ℕ) (json : Bool) (input text : List ℕ) (s : Stream) (blocks : List Block) → IsAccepted limit input s blocks
    → (names : Option (List ℕ)) × HasBoxes input names × (text ≡ file_text json names (brand_text (brand_of input)) (facts_of s blocks)) → IsShown limit json input text
shown_of limit json input text s blocks accepted is = record { stream = s; blocks = blocks; accepted = accepted; names = is.0; boxes = is.1; is = is.2 }

pub shown_to_say : (asked : Show) (read text : List ℕ) (old new : Meaning) → IsFront asked.limit (joined (old.holds asked.name)) read → IsUntouched old new → IsShown asked.limit asked.json read text
    → IsToSay (ShowVerdict asked.limit) (IsShown asked.limit asked.json) asked.name status.Done text old new
shown_to_say asked read text old new front same is = record {
  input = read;
  told = short_told asked.limit (joined (old.holds asked.name)) read front is.accepted.within;
  verdict = λ v. (is.stream, is.blocks, is.accepted);
  lines = λ done. is;
  line = λ other. absurd (other refl);
  files = same;
}

-- ---- a file that is refused
unfit_verdict : (limit : ℕ) (input : List ℕ) (s : Status) → IsUnfit limit input s → IsVerdict s → ShowVerdict limit input s
unfit_verdict limit input (status.Rule number place) is v = is
unfit_verdict limit input (status.Limit number found) is v = is
unfit_verdict limit input status.NoMemory is v = absurd v
unfit_verdict limit input status.Done is v = absurd is
unfit_verdict limit input status.Words is v = absurd is
unfit_verdict limit input (status.Choice number place) is v = absurd is
unfit_verdict limit input (status.Block number) is v = absurd is
unfit_verdict limit input (status.Unlike how) is v = absurd is
unfit_verdict limit input status.ReadFault is v = absurd is
unfit_verdict limit input status.WriteFault is v = absurd is

unfit_other : (limit : ℕ) (input : List ℕ) (s : Status) → IsUnfit limit input s → IsOther s
unfit_other limit input (status.Rule number place) is = tt
unfit_other limit input (status.Limit number found) is = tt
unfit_other limit input status.NoMemory is = tt
unfit_other limit input status.Done is = absurd is
unfit_other limit input status.Words is = tt
unfit_other limit input (status.Choice number place) is = tt
unfit_other limit input (status.Block number) is = tt
unfit_other limit input (status.Unlike how) is = tt
unfit_other limit input status.ReadFault is = tt
unfit_other limit input status.WriteFault is = tt

pub unshown_to_say : (asked : Show) (read : List ℕ) (s : Status) (old new : Meaning) → IsFront asked.limit (joined (old.holds asked.name)) read → IsUntouched old new → IsUnfit asked.limit read s
    → IsToSay (ShowVerdict asked.limit) (IsShown asked.limit asked.json) asked.name s (line_of s 0 0) old new
unshown_to_say asked read s old new front same is =
    let input : IsUnfitInput asked.limit (joined (old.holds asked.name)) s = unfit_told asked.limit (joined (old.holds asked.name)) read s front is in
    record {
      input = input.input;
      told = input.told;
      verdict = unfit_verdict asked.limit input.input s input.is;
      lines = λ done. absurd (undone s (unfit_other asked.limit read s is) done);
      line = λ other. refl;
      files = same;
    }
