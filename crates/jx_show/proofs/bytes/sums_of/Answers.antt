use Rattle.std.proofs.Common.{◌≡◌, ◌∙◌, ◌≤◌, ℕ, List, ap, sym, subst, arith, length}
use Rattle.std.proofs.lemmas.List.Elements.{All-get_or}
use Rattle.jx_base.specs.declared.pieces.Block.{Block}
use Rattle.jx_base.specs.Sound.{IsSound}
use Rattle.jx_show.proofs.SumLemmas.{with_more, more_long, sums_next, sums_most}
use Rattle.jx_show.proofs.bytes.sums_of.Goals as goal
use Rattle.jx_base.specs.Limits.{most_bytes}

pub loop-block-preserved : goal.loop-block-preserved
loop-block-preserved c =
    let sums = c.loop-block.sums.items in
    let b = c.block-item.result in
    let next : c.add.new.sums.items ≡ with_more sums b.name.comp c.block_bytes.result = c.add.ensures ∙ ap (λ (k : ℕ). with_more sums k c.block_bytes.result) c.from-in-loop-block.ensures in
    let sound : IsSound b = subst (λ (x : Block). IsSound x) (sym c.block-item.is) (All-get_or IsSound c.args.blocks.now c.loop-block.block-index b c.loop-block-test.true c.requires) in
    let few : c.block_bytes.result ≤ most_bytes = omega (arith, sound.bytes, c.block_bytes.ensures) in
    record {
      count = ap (λ (xs : List ℕ). length xs) next ∙ (more_long sums b.name.comp c.block_bytes.result ∙ c.loop-block.invariant.count);
      each = λ k lt. sums_next c.args.blocks.now c.loop-block.block-index k c.block_bytes.result b sums c.add.new.sums.items c.loop-block-test.true c.block-item.is
          (omega (arith, lt, c.loop-block.invariant.count)) c.block_bytes.ensures next (c.loop-block.invariant.each k lt);
      most = λ k lt. sums_most sums c.add.new.sums.items b.name.comp c.block_bytes.result k c.loop-block.block-index (omega (arith, lt, c.loop-block.invariant.count)) few next
          (c.loop-block.invariant.most k lt);
    }
