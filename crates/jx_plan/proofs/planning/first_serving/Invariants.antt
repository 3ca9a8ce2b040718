use Rattle.std.proofs.Common.{take}
use Rattle.jx_plan.specs.Questions.{HasNone}
use Rattle.jx_plan.proofs.planning.first_serving.Given as goal

abbrev pub invariant-loop-place : goal.invariant-loop-place
invariant-loop-place g l = HasNone (λ b. (goal.LayerPlanner-dyn g (b.vtable, b.value)).serves_text b.value l.words) (take l.place l.planners)
