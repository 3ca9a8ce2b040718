use Rattle.std.proofs.Common.{◌∙◌, ap}
use Rattle.jx_generate.specs.Drawn.{block_drawn, drawn_at}
use Rattle.jx_generate.specs.Values.{drawn_of}
use Rattle.jx_generate.proofs.DrawnLemmas.{before_next}
use Rattle.jx_generate.proofs.ListLemmas.{next_made}
use Rattle.jx_generate.proofs.drawing.draw_blocks.Goals as goal

pub loop-preserved : goal.loop-preserved
loop-preserved c = (
  next_made drawn_of (block_drawn c.args.seed) c.loop.blocks.items c.push.new.self.items c.loop.counter c.in_ok-block.block c.loop.invariant.0
      (c.in_ok-block.ensures.block ∙ ap drawn_at c.loop.invariant.1) c.in_ok-push.ensures.items,
  before_next c.args.seed c.loop.counter c.loop.state c.draw_block.new.state c.loop.invariant.1 c.in_ok-block.ensures.state,
)
