use Rattle.std.proofs.Common.{◌∙◌, ◌≤◌, arith, sym, subst, List, ℕ}
use Rattle.jx_base.specs.Pieces.{PieceValue, bytes_in}
use Rattle.jx_codeblock.specs.Starts.{AreStarts}
use Rattle.jx_codeblock.proofs.OwnBytes.{kept_by}
use Rattle.jx_codeblock.proofs.recoded.keep.Goals as goal
use Rattle.jx_base.specs.Limits.{most_bytes}

pub starts_of-requires : goal.starts_of-requires
starts_of-requires c = subst (λ (ps : List PieceValue). bytes_in ps ≤ most_bytes) (sym c.as_slice-pieces.ensures) c.requires.asked.sound.bytes

pub invariant_of-result : goal.invariant_of-result
invariant_of-result c = record {
  asked = c.requires.asked;
  few = rw c.in_ok-made.ensures.bytes (omega arith);
  begins = subst (λ (starts : List ℕ). AreStarts c.args.job.now.block.now.pieces starts) (sym c.in_ok-made.ensures.starts)
      (subst (λ (ps : List PieceValue). AreStarts ps c.in_ok-starts.starts.items) c.as_slice-pieces.ensures c.in_ok-starts.ensures);
  is = kept_by c.args.job.now c.as_slice.result.now _ _ c.requires.kept c.as_slice.ensures (c.in_ok-made.ensures.parts ∙ c.in_ok-parts.ensures);
}

pub returns-clause-recoding : goal.returns-clause-recoding
returns-clause-recoding c = kept_by c.args.job.now c.as_slice.result.now _ _ c.requires.kept c.as_slice.ensures (c.in_ok-made.ensures.parts ∙ c.in_ok-parts.ensures)
