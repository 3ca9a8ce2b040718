use Rattle.std.proofs.Common.{◌≡◌, ◌∙◌, ◌∷◌, ap, List}
use Rattle.std.proofs.lemmas.Result.{IfOk-weaker}
use Rattle.jx_base.specs.Pieces.{PieceValue}
use Rattle.jx_codeblock.specs.Segments.{sent_by_pieces}
use Rattle.jx_codeblock.specs.Recoding.{layer_parts_after}
use Rattle.jx_codeblock.specs.Tables.{at_place, rows}
use Rattle.jx_codeblock.proofs.DecideLemmas.{pieces_table}
use Rattle.jx_codeblock.proofs.decide.parts_by_pieces.Goals as goal

pub returns : goal.returns
returns c =
    let b = c.args.block.now in
    IfOk-weaker c.all_parts.result (λ parts. parts.items ≡ layer_parts_after b.style.bits (at_place c.deref.result.now) 0 c.args.ends.now)
    (λ parts. parts.items ≡ layer_parts_after b.style.bits (sent_by_pieces b.pieces) 0 c.args.ends.now)
    (λ parts e. e ∙ pieces_table b c.args.ends.now c.deref.result.now c.requires.sound.pieces c.requires.ends
    (c.deref.ensures.value ∙ c.in_ok-table.ensures ∙ ap (λ (ps : List PieceValue). 0 ∷ rows 0 ps) c.as_slice.ensures))
    c.all_parts.ensures
