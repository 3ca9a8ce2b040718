use Rattle.std.proofs.Common.{◌≡◌, ◌∙◌, sym, None}
use Rattle.std.proofs.lemmas.Result.{IfOk-weaker}
use Rattle.jx_codeblock.specs.Segments.{sent_by_pieces}
use Rattle.jx_codeblock.specs.Recoding.{own_segments, layer_parts_after, sent_in}
use Rattle.jx_codeblock.proofs.DecideLemmas.{none_parts, cut_parts}
use Rattle.jx_codeblock.proofs.decide.parts_of.Goals as goal

pub returns-then-block-eq0 : goal.returns-then-block-eq0
returns-then-block-eq0 c =
    let b = c.args.block.now in
    let own = sym c.in_ok-has_own_ends.ensures ∙ c.if-branch.false in
    IfOk-weaker c.parts_by_pieces-then-block-eq0.result (λ parts. parts.items ≡ layer_parts_after b.style.bits (sent_by_pieces b.pieces) 0 c.args.ends.now)
    (λ parts. parts.items ≡ layer_parts_after b.style.bits (sent_in b None c.args.ends.now (own_segments b)) 0 c.args.ends.now)
    (λ parts e. e ∙ none_parts b c.args.ends.now c.requires.sound.pieces c.requires.ends own c.if-block-eq0.true) c.parts_by_pieces-then-block-eq0.ensures

pub returns-then-all_cut : goal.returns-then-all_cut
returns-then-all_cut c =
    let b = c.args.block.now in
    let own = sym c.in_ok-has_own_ends.ensures ∙ c.if-branch.false in
    IfOk-weaker c.parts_by_pieces-then-all_cut.result (λ parts. parts.items ≡ layer_parts_after b.style.bits (sent_by_pieces b.pieces) 0 c.args.ends.now)
    (λ parts. parts.items ≡ layer_parts_after b.style.bits (sent_in b None c.args.ends.now (own_segments b)) 0 c.args.ends.now)
    (λ parts e. e ∙ cut_parts b c.args.ends.now c.requires.sound.pieces c.requires.ends own (sym c.all_cut.ensures ∙ c.if-all_cut.true)) c.parts_by_pieces-then-all_cut.ensures
