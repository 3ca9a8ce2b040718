use Rattle.std.proofs.Common.{arith}
use Rattle.jx_progression.proofs.PlacesLemmas.{groups_more}
use Rattle.jx_progression.proofs.table.groups_of.Goals as goal

pub loop-group-preserved : goal.loop-group-preserved
loop-group-preserved c = record {
  bounds = groups_more c.args.places.now c.args.rows.now c.args.sent.now c.loop-group.groups.items c.push.new.self.items c.loop-group.group
      c.bounds_of.result c.group_of.result.now c.in_ok-push.ensures.items c.loop-group.invariant.count c.group_of.ensures c.bounds_of.ensures
      c.loop-group.invariant.bounds;
  count = omega (arith, c.in_ok-push.ensures.len, c.loop-group.invariant.count);
}
