-- A block's own bytes are those of its pieces, one behind another.
use Rattle.std.proofs.Common.{◌≡◌, ◌∙◌, ap, List, ℕ, refl, None, Some}
use Rattle.std.specs.List.{concat}
use Rattle.jx_base.specs.declared.pieces.Block.{Block}
use Rattle.jx_base.specs.Sound.{IsSound}
use Rattle.jx_codeblock.specs.declared.job.Job.{Job}
use Rattle.jx_codeblock.specs.declared.LayerEnd.{LayerEnd}
use Rattle.jx_codeblock.specs.declared.LayerPart.{LayerPart}
use Rattle.jx_codeblock.specs.Recoding.{own_segments, layer_parts_after, sent_in, recoding}
use Rattle.jx_codeblock.specs.Recoded.{made_recoding, recoding_in}
use Rattle.jx_codeblock.specs.Tables.{bytes_joined}
use Rattle.jx_codeblock.proofs.GroupLemmas.{segments_are, groups_bytes}

pub own_bytes : (b : Block) → IsSound b → concat (own_segments b) ≡ bytes_joined b.pieces
own_bytes b sound = ap concat (segments_are b.style.bits 0 b.passes b.pieces sound.pieces) ∙ groups_bytes b.style.bits b.pieces

-- a kept block's recoding
pub kept_by : (j : Job) (ends : List LayerEnd) (new : List ℕ) (parts : List LayerPart) → j.style ≡ None → ends ≡ j.ends
    → parts ≡ layer_parts_after j.block.now.style.bits (sent_in j.block.now None ends (own_segments j.block.now)) 0 ends → Some (made_recoding j new parts) ≡ recoding_in j
unfolding recoding
kept_by j ends new parts none same e = rw (none, e, same) refl
