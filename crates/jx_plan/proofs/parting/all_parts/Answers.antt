use Rattle.std.proofs.Common.{arith}
use Rattle.jx_plan.proofs.PartedLemmas.{few_next, total_next}
use Rattle.jx_plan.proofs.parting.all_parts.Goals as goal

pub loop-tile-preserved : goal.loop-tile-preserved
loop-tile-preserved c = record {
  few = few_next c.args.parts c.args.written.now c.loop-tile.tile c.in_ok-count.count c.loop-tile.invariant.few c.in_ok-count.ensures c.if-count-gt255.false;
  total = total_next c.args.parts c.args.written.now c.loop-tile.tile c.loop-tile.all c.in_ok-count.count c.loop-tile.invariant.total c.in_ok-count.ensures;
  small = omega (arith, c.loop-tile.invariant.small, c.if-count-gt255.false);
}
