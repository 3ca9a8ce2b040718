use Rattle.std.proofs.Common.{rules, ◌≡◌, ◌<◌, ◌≤◌, ◌∙◌, length}
use Rattle.jx_reduce.proofs.LoopLemmas.{left_ends, left_goes, none_left}
use Rattle.jx_reduce.proofs.blocks.left_by.Goals as goal

pub returns-then-is_empty : goal.returns-then-is_empty
returns-then-is_empty c =
    let none : length c.args.blocks.now ≡ 0 = search rules in
    c.new-left.ensures.items ∙ none_left c.args.d c.args.stream.now c.args.blocks.now none

pub loop-block-preserved : goal.loop-block-preserved
loop-block-preserved c =
    let inside : c.loop-block.block-index < length c.args.blocks.now = search rules in
    record {
      view = c.in_ok-view-2.ensures;
      done = left_goes c.args.d c.args.stream.now c.loop-block.left.items c.put_left.new.left.items c.args.blocks.now c.loop-block.block-index c.block-item.result c.in_ok-view-2.view inside
          c.block-item.is c.in_ok-view-2.ensures c.in_ok-put_left.ensures c.loop-block.invariant.done;
    }

pub returns : goal.returns
returns c =
    let past : length c.args.blocks.now ≤ c.loop-block.block-index = search rules in
    left_ends c.args.d c.args.stream.now c.loop-block.left.items c.args.blocks.now c.loop-block.block-index past c.loop-block.invariant.done
