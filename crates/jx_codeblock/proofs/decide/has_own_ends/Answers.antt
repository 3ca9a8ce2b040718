use Rattle.std.proofs.Common.{◌∙◌, ap, false, get_or, List, Bool, ℕ}
use Rattle.jx_base.specs.Pieces.{PieceValue}
use Rattle.jx_codeblock.specs.Tables.{is_own_end}
use Rattle.jx_codeblock.proofs.OwnLemmas.{own_all}
use Rattle.jx_codeblock.proofs.decide.has_own_ends.Goals as goal

pub returns : goal.returns
returns c =
    c.all_noted.ensures
    ∙ own_all c.args.block.now.passes (λ (n : ℕ). get_or c.deref.result.now n false) c.args.block.now.pieces c.args.ends.now c.requires.ends
    (λ (n : ℕ) le.
    ap (λ (l : List Bool). get_or l n false) c.deref.ensures.value
    ∙ c.in_ok-own.ensures.each n le
    ∙ ap (λ (ps : List PieceValue). is_own_end ps n) c.as_slice.ensures)
