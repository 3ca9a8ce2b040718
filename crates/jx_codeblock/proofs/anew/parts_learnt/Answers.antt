use Rattle.std.proofs.Common.{◌≡◌, ◌∙◌, ℕ, List, Some, map, refl}
use Rattle.std.proofs.lemmas.Result.{IfOk-weaker}
use Rattle.jx_tier1_specs.specs.Segments.{bytes_of}
use Rattle.jx_codeblock.specs.Recoding.{layer_parts_after, sent_in}
use Rattle.jx_codeblock.specs.Tables.{at_place}
use Rattle.jx_codeblock.proofs.DecideLemmas.{looked_few_in}
use Rattle.jx_codeblock.proofs.NewParts.{learnt_parts}
use Rattle.jx_codeblock.proofs.anew.parts_learnt.Goals as goal

pub by_looks-requires-clause-few : goal.by_looks-requires-clause-few
by_looks-requires-clause-few c =
    looked_few_in c.args.block.now c.args.style c.args.style c.args.block.now.passes c.args.segments.now (map bytes_of c.as_slice.result.now) c.args.looked.now refl c.as_slice.ensures c.requires.looked

pub returns : goal.returns
returns c =
    let b = c.args.block.now in
    let style = c.args.style in
    let ss : List (List ℕ) = c.args.segments.now in
    IfOk-weaker c.all_parts.result (λ parts. parts.items ≡ layer_parts_after style.bits (at_place c.deref.result.now) 0 c.args.ends.now)
    (λ parts. parts.items ≡ layer_parts_after style.bits (sent_in b (Some style) c.args.ends.now ss) 0 c.args.ends.now)
    (λ parts e. e ∙ learnt_parts b style c.args.ends.now ss c.deref.result.now _ _ c.requires.ends c.as_slice.ensures c.requires.looked (c.deref.ensures.value ∙ c.in_ok-table.ensures))
    c.all_parts.ensures
