use Rattle.std.proofs.Common.{◌≡◌, ◌+◌, ◌≤◌, IfSome, map, drop}
use Rattle.jx_base.specs.Pieces.{value_of}
use Rattle.jx_plan.specs.Sent.{AreLeft, AreSent, answered}
use Rattle.jx_plan.proofs.asking.ask_block.Given as goal

abbrev pub invariant-loop-piece : goal.invariant-loop-piece
invariant-loop-piece g l =
    let first = (goal.LayerPlanner-dyn g (l.initial.planner.vtable, l.initial.planner.value)) in
    let now = (goal.LayerPlanner-dyn g (l.planner.vtable, l.planner.value)) in
    record {
      rule : now.rule l.planner.value ≡ first.rule l.initial.planner.value;
      asked : now.asked l.planner.value ≡ first.asked l.initial.planner.value + l.sending.passes;
      few : l.sending.passes ≤ 220;
      left : AreLeft l.block l.sending.passes (map value_of (drop l.piece-index l.piece-items));
      sent : IfSome (first.rule l.initial.planner.value) (λ r. AreSent (answered r l.last (first.asked l.initial.planner.value) l.number l.block) l.sending.passes l.sending.last l.sending.ends);
    }
