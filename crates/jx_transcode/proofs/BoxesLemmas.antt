-- Runs of `boxes`.
use Rattle.std.proofs.Common.{◌≡◌, ◌≤◌, ℕ, List, inr, length, refl}
use Rattle.jx_io.specs.Device.{Meaning, joined}
use Rattle.jx_cli.specs.BoxesWords.{Boxes}
use Rattle.jx_jp2.specs.Codestream.{IsJp2}
use Rattle.jx_jp2.specs.Lines.{HasLines}
use Rattle.jx_jp2.specs.Trees.{IsTreeFault}
use Rattle.jx_jp2.specs.declared.faults.BoxFault.{BoxFault}
use Rattle.jx_jp2.specs.declared.faults.BoxFault.TheVariants as unboxed
use Rattle.jx_transcode.specs.BoxesRun.{BoxesVerdict, IsListed, IsUnlisted}
use Rattle.jx_rounds.specs.Files.{IsUntouched}
use Rattle.jx_transcode.specs.Outcome.{line_of}
use Rattle.jx_transcode.specs.Sources.{told_of_boxes}
use Rattle.jx_transcode.specs.declared.status.Status.{Status}
use Rattle.jx_transcode.specs.declared.status.Status.TheVariants as status
use Rattle.jx_transcode.proofs.DoneLemmas.{undone}
use Rattle.jx_transcode.proofs.LeftLemmas.{IsFront, long_whole, short_told, told_whole, whole}
use Rattle.jx_transcode.proofs.LinesLemmas.{IsToSay}

-- ---- boxes that can't be told
pub boxes_unlisted : (limit : ℕ) (input : List ℕ) (f : BoxFault) → length input ≤ limit → IsJp2 input → IsTreeFault input f → IsUnlisted limit input (told_of_boxes f)
boxes_unlisted limit input (unboxed.Rule number place) within is broken = (within, inr (is, broken))
boxes_unlisted limit input unboxed.NoMemory within is broken = tt

-- ---- what is to be said
pub listed_to_say : (asked : Boxes) (read text : List ℕ) (old new : Meaning) → IsFront asked.limit (joined (old.holds asked.name)) read → IsUntouched old new → IsListed asked.limit read text → IsToSay (BoxesVerdict asked.limit) HasLines asked.name status.Done text old new
listed_to_say asked read text old new front same is = record {
  input = read;
  told = short_told asked.limit (joined (old.holds asked.name)) read front is.within;
  verdict = λ v. (is.within, is.is, is.lines.tree, is.lines.fills);
  lines = λ done. is.lines;
  line = λ other. absurd (other refl);
  files = same;
}

pub unlisted_to_say : (asked : Boxes) (read : List ℕ) (s : Status) (old new : Meaning) → IsFront asked.limit (joined (old.holds asked.name)) read → IsUntouched old new → IsUnlisted asked.limit read s → IsToSay (BoxesVerdict asked.limit) HasLines asked.name s (line_of s 0 0) old new
unlisted_to_say asked read status.Done old new front same is = absurd is
unlisted_to_say asked read status.Words old new front same is = absurd is
unlisted_to_say asked read (status.Unlike how) old new front same is = absurd is
unlisted_to_say asked read (status.Rule number place) old new front same is = record {
  input = read;
  told = short_told asked.limit (joined (old.holds asked.name)) read front is.0;
  verdict = λ v. is;
  lines = λ done. absurd (undone (status.Rule number place) tt done);
  line = λ other. refl;
  files = same;
}
unlisted_to_say asked read (status.Limit number found) old new front same is = record {
  input = whole (joined (old.holds asked.name)) read;
  told = told_whole (joined (old.holds asked.name)) read;
  verdict = λ v. (long_whole asked.limit (joined (old.holds asked.name)) read front is.0, is.1, is.2);
  lines = λ done. absurd (undone (status.Limit number found) tt done);
  line = λ other. refl;
  files = same;
}
unlisted_to_say asked read (status.Choice number place) old new front same is = absurd is
unlisted_to_say asked read (status.Block number) old new front same is = absurd is
unlisted_to_say asked read status.ReadFault old new front same is = absurd is
unlisted_to_say asked read status.WriteFault old new front same is = absurd is
unlisted_to_say asked read status.NoMemory old new front same is = record {
  input = whole (joined (old.holds asked.name)) read;
  told = told_whole (joined (old.holds asked.name)) read;
  verdict = λ no. absurd no;
  lines = λ done. absurd (undone status.NoMemory tt done);
  line = λ other. refl;
  files = same;
}

-- ---- no fault of a device but where it is told
pub unlisted_unread : (limit : ℕ) (read : List ℕ) (s : Status) → IsUnlisted limit read s → (s ≡ status.ReadFault → ⊥) × (s ≡ status.WriteFault → ⊥)
unlisted_unread limit read status.Done is = absurd is
unlisted_unread limit read status.Words is = absurd is
unlisted_unread limit read (status.Unlike how) is = absurd is
unlisted_unread limit read (status.Rule number place) is = (λ e. cc, λ e. cc)
unlisted_unread limit read (status.Limit number found) is = (λ e. cc, λ e. cc)
unlisted_unread limit read (status.Choice number place) is = absurd is
unlisted_unread limit read (status.Block number) is = absurd is
unlisted_unread limit read status.ReadFault is = absurd is
unlisted_unread limit read status.WriteFault is = absurd is
unlisted_unread limit read status.NoMemory is = (λ e. cc, λ e. cc)

pub done_sound : (status.Done ≡ status.ReadFault → ⊥) × (status.Done ≡ status.WriteFault → ⊥)
done_sound = (λ e. cc, λ e. cc)
