use Rattle.jx_plan.proofs.StrayLemmas.{placed_next}
use Rattle.jx_plan.proofs.strays.first_stray.Goals as goal

pub loop-tile-preserved : goal.loop-tile-preserved
loop-tile-preserved c =
    placed_next c.args.stream.now c.args.options.now c.args.layers c.loop-tile.tile c.in_ok-placed.placed c.loop-tile.invariant c.in_ok-placed.ensures c.if-not-placed.false
