-- What an input is judged before anything is made of it.
use Rattle.std.proofs.Common.{◌≡◌, ◌≤◌, ◌-◌, min, ℕ, List, drop, length, arith, inr, refl}
use Rattle.std.proofs.lemmas.List.{length-drop, length-take}
use Rattle.jx_base.specs.declared.pieces.Block.{Block}
use Rattle.jx_codestream.specs.declared.faults.StreamFault.{StreamFault}
use Rattle.jx_codestream.specs.declared.faults.StreamFault.TheVariants as fault
use Rattle.jx_codestream.specs.declared.Stream.{Stream}
use Rattle.jx_jp2.specs.declared.Boxed.{Boxed}
use Rattle.jx_jp2.specs.Codestream.{content}
use Rattle.jx_transcode.specs.Filed.{told_by}
use Rattle.jx_transcode.specs.Jp2Run.{raised}
use Rattle.jx_transcode.specs.Judged.{IsInputCause}
use Rattle.jx_transcode.specs.Rewritten.{Reads}
use Rattle.jx_transcode.specs.Sources.{HasCodestream, IsAccepted, IsUnfit}

pub accepted_of : (limit : ℕ) (input inner : List ℕ) (from : ℕ) (s : Stream) (blocks : List Block) → length input ≤ limit → HasCodestream input from inner → Reads inner s blocks → IsAccepted limit input s blocks
accepted_of limit input inner from s blocks short has reads = record { within = short; from = from; inner = inner; has = has; reads = reads }

pub unfit_at : (limit : ℕ) (input inner : List ℕ) (from : ℕ) (f : StreamFault) → length input ≤ limit → HasCodestream input from inner → IsInputCause inner f → IsUnfit limit input (raised from (told_by f))
unfit_at limit input inner from (fault.Rule number place) short has cause = (short, inr (from, inner, place, has, refl, cause))
unfit_at limit input inner from (fault.Limit number found) short has cause = inr (short, from, inner, has, cause)
unfit_at limit input inner from fault.NoMemory short has cause = tt

-- the content of a box is no longer than its file
pub content_short : (most : ℕ) (input : List ℕ) (boxed : Boxed) → length input ≤ most → length (content input boxed) ≤ most
content_short most input boxed short =
    let rest : length (drop boxed.from input) ≡ length input - boxed.from = length-drop boxed.from input in
    let some : length (content input boxed) ≡ min (boxed.to - boxed.from) (length (drop boxed.from input)) = length-take (boxed.to - boxed.from) (drop boxed.from input) in
    omega (arith, some, rest, short)
