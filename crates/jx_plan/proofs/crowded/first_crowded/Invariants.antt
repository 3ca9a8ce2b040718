use Rattle.jx_plan.proofs.CrowdLemmas.{NoneBefore}
use Rattle.jx_plan.proofs.crowded.first_crowded.Given as goal

abbrev pub invariant-loop-number : goal.invariant-loop-number
invariant-loop-number l = NoneBefore l.jobs l.number
