use Rattle.std.proofs.Common.{◌≡◌, ◌+◌, ◌∙◌, map, ℕ, List}
use Rattle.std.specs.List.{range_with_len}
use Rattle.std.proofs.lemmas.Result.{IfOk-weaker}
use Rattle.jx_codeblock.specs.Segments.{sent_by_looks}
use Rattle.jx_codeblock.specs.Laws.{decoded_first}
use Rattle.jx_codeblock.specs.Recoding.{own_segments}
use Rattle.jx_codeblock.proofs.DecideLemmas.{groups_most, own_table}
use Rattle.jx_codeblock.proofs.decide.own_looked.Goals as goal

pub looked_in-requires-clause-few : goal.looked_in-requires-clause-few
looked_in-requires-clause-few c = groups_most c.args.block.now.style.bits c.args.block.now.pieces c.args.segments c.requires.own c.requires.sound.bytes

pub returns : goal.returns
returns c =
    let b = c.args.block.now in
    let ss : List (List ℕ) = c.args.segments in
    IfOk-weaker c.looked_in.result
    (λ table. table.items ≡ map (sent_by_looks b.style.bits b.passes ss (decoded_first b b.style.bits ss c.args.last).looked) (range_with_len 0 (b.passes + 1)))
    (λ table. table.items ≡ map (sent_by_looks b.style.bits b.passes (own_segments b) (decoded_first b b.style.bits (own_segments b) c.args.last).looked) (range_with_len 0 (b.passes + 1)))
    (λ table e. e ∙ own_table b c.args.last ss c.requires.sound c.requires.own) c.looked_in.ensures
