use Rattle.jx_plan.proofs.PlanLemmas.{gathered_may}
use Rattle.jx_plan.proofs.laws.gathered_may_be_planned.Goals as goal

pub returns : goal.returns
returns c = gathered_may
