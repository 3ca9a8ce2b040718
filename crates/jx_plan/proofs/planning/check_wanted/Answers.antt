use Rattle.jx_plan.proofs.PlanLemmas.{few_blocks}
use Rattle.jx_plan.proofs.planning.check_wanted.Goals as goal

pub first_broken-requires : goal.first_broken-requires
first_broken-requires c = record { few = few_blocks c.args.stream.now c.args.blocks.now c.requires.may }
