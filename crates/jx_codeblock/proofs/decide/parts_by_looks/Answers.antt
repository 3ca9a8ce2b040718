use Rattle.std.proofs.Common.{◌≡◌, ◌∙◌, ℕ}
use Rattle.std.proofs.lemmas.Result.{IfOk-weaker}
use Rattle.jx_codeblock.specs.Laws.{decoded_first}
use Rattle.jx_codeblock.specs.Segments.{sent_by_looks}
use Rattle.jx_codeblock.specs.Recoding.{own_segments, layer_parts_after}
use Rattle.jx_codeblock.specs.Tables.{at_place}
use Rattle.jx_codeblock.proofs.DecideLemmas.{listed_table, own_looked}
use Rattle.jx_codeblock.proofs.NewParts.{first_parts, last_most}
use Rattle.jx_codeblock.proofs.decide.parts_by_looks.Goals as goal

pub looked_at-requires-clause-last : goal.looked_at-requires-clause-last
looked_at-requires-clause-last c = rw c.last_within-last.ensures (last_most c.args.block.now.style.bits 0 0 c.args.block.now.passes c.args.ends.now c.requires.ends)

pub returns : goal.returns
returns c =
    let b = c.args.block.now in
    let last : ℕ = c.last_within-last.result in
    let first : ℕ → ℕ = sent_by_looks b.style.bits b.passes (own_segments b) (decoded_first b b.style.bits (own_segments b) last).looked in
    let f : ℕ → ℕ = sent_by_looks b.style.bits b.passes (own_segments b) (own_looked b) in
    IfOk-weaker c.all_parts.result (λ parts. parts.items ≡ layer_parts_after b.style.bits (at_place c.deref.result.now) 0 c.args.ends.now)
    (λ parts. parts.items ≡ layer_parts_after b.style.bits f 0 c.args.ends.now)
    (λ parts e. e ∙ listed_table first b.style.bits b.passes c.args.ends.now c.deref.result.now c.requires.ends (c.deref.ensures.value ∙ c.in_ok-table.ensures)
    ∙ first_parts b b.style.bits last c.args.ends.now (own_segments b) c.requires.ends c.last_within-last.ensures)
    c.all_parts.ensures
