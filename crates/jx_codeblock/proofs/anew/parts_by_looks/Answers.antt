use Rattle.std.proofs.Common.{◌≡◌, ◌∙◌, ℕ, List, Some}
use Rattle.std.proofs.lemmas.Result.{IfOk-weaker}
use Rattle.jx_codeblock.specs.Recoding.{layer_parts_after, sent_in}
use Rattle.jx_codeblock.specs.Tables.{at_place}
use Rattle.jx_codeblock.proofs.NewParts.{last_most, looks_parts}
use Rattle.jx_codeblock.proofs.anew.parts_by_looks.Goals as goal

pub looked_in-requires-clause-last : goal.looked_in-requires-clause-last
looked_in-requires-clause-last c = rw c.last_within-last.ensures (last_most c.args.style.bits 0 0 c.args.block.now.passes c.args.ends.now c.requires.ends)

pub returns : goal.returns
returns c =
    let b = c.args.block.now in
    let style = c.args.style in
    let ss : List (List ℕ) = c.args.segments in
    IfOk-weaker c.all_parts.result (λ parts. parts.items ≡ layer_parts_after style.bits (at_place c.deref.result.now) 0 c.args.ends.now)
    (λ parts. parts.items ≡ layer_parts_after style.bits (sent_in b (Some style) c.args.ends.now ss) 0 c.args.ends.now)
    (λ parts e. e ∙ looks_parts b style c.last_within-last.result c.args.ends.now ss c.deref.result.now c.requires.ends c.last_within-last.ensures (c.deref.ensures.value ∙ c.in_ok-table.ensures))
    c.all_parts.ensures
