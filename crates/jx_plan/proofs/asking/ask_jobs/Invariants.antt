use Rattle.std.proofs.Common.{◌≡◌, IfSome, length}
use Rattle.jx_plan.specs.Layers.{asked_before}
use Rattle.jx_plan.specs.Sent.{AreFirst}
use Rattle.jx_plan.proofs.asking.ask_jobs.Given as goal

abbrev pub invariant-loop-number : goal.invariant-loop-number
invariant-loop-number g l =
    let first = (goal.LayerPlanner-dyn g (l.initial.planner.vtable, l.initial.planner.value)) in
    let now = (goal.LayerPlanner-dyn g (l.planner.vtable, l.planner.value)) in
    record {
      rule : now.rule l.planner.value ≡ first.rule l.initial.planner.value;
      asked : now.asked l.planner.value ≡ asked_before l.blocks l.number;
      count : length l.jobs.items ≡ l.number;
      jobs : IfSome (first.rule l.initial.planner.value) (λ r. AreFirst l.style r l.layers l.blocks l.number l.jobs.items);
    }
