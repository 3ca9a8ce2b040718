use Rattle.std.proofs.Common.{arith}
use Rattle.jx_rounds.proofs.ExtentLemmas.{extent_few, extent_small}
use Rattle.jx_rounds.proofs.rounds.extent_of.Goals as goal

pub overflow_add-result : goal.overflow_add-result
overflow_add-result c =
    let small = extent_small c.args.making.now c.args.tile c.args.block c.in_ok-all.all c.put_counts.new.each.items c.jobs.ensures.plan c.in_ok-all.ensures c.requires.block in
    omega (arith, small)

pub returns-clause-within : goal.returns-clause-within
returns-clause-within c = extent_few c.args.making.now c.args.tile c.args.block c.in_ok-all.all c.put_counts.new.each.items c.jobs.ensures.plan c.in_ok-all.ensures c.requires.block

pub returns-clause-few : goal.returns-clause-few
returns-clause-few c = extent_small c.args.making.now c.args.tile c.args.block c.in_ok-all.all c.put_counts.new.each.items c.jobs.ensures.plan c.in_ok-all.ensures c.requires.block
