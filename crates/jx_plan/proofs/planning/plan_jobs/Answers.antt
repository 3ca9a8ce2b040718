use Rattle.std.proofs.Common.{rules, ◌≡◌, length, arith}
use Rattle.jx_plan.proofs.PlanLemmas.{few_blocks}
use Rattle.jx_plan.proofs.planning.plan_jobs.Goals as goal

pub first_crowded-requires : goal.first_crowded-requires
first_crowded-requires c =
    let same : length c.deref.result.now ≡ length c.args.jobs.items = search rules in
    omega (arith, same, c.requires.all, few_blocks c.args.stream.now c.args.blocks.now c.requires.may)
