use Rattle.std.proofs.Common.{◌≡◌, ◌∙◌, ℕ, List, Some}
use Rattle.std.proofs.lemmas.Result.{IfOk-weaker}
use Rattle.jx_codeblock.specs.Recoding.{layer_parts_after, sent_in}
use Rattle.jx_codeblock.specs.Tables.{at_place}
use Rattle.jx_codeblock.proofs.NewParts.{ends_parts}
use Rattle.jx_codeblock.proofs.anew.parts_by_ends.Goals as goal

pub returns : goal.returns
returns c =
    let b = c.args.block.now in
    let style = c.args.style in
    let ss : List (List ℕ) = c.args.segments.now in
    IfOk-weaker c.all_parts.result (λ parts. parts.items ≡ layer_parts_after style.bits (at_place c.deref.result.now) 0 c.args.ends.now)
    (λ parts. parts.items ≡ layer_parts_after style.bits (sent_in b (Some style) c.args.ends.now ss) 0 c.args.ends.now)
    (λ parts e. e ∙ ends_parts b style c.args.ends.now ss c.deref.result.now _ _ c.requires.ends c.requires.cut c.as_slice.ensures (c.deref.ensures.value ∙ c.in_ok-table.ensures))
    c.all_parts.ensures
