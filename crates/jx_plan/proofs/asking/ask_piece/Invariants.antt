use Rattle.std.proofs.Common.{◌≡◌, ◌+◌, ◌≤◌, IfSome, ℕ}
use Rattle.jx_plan.specs.Sent.{AreSent, answered}
use Rattle.jx_plan.proofs.asking.ask_piece.Given as goal

abbrev pub invariant-loop-pass : goal.invariant-loop-pass
invariant-loop-pass g l =
    let first = (goal.LayerPlanner-dyn g (l.initial.planner.vtable, l.initial.planner.value)) in
    let now = (goal.LayerPlanner-dyn g (l.planner.vtable, l.planner.value)) in
    record {
      rule : now.rule l.planner.value ≡ first.rule l.initial.planner.value;
      asked : now.asked l.planner.value + l.piece.first ≡ first.asked l.initial.planner.value + l.pass;
      from : l.piece.first ≤ l.pass;
      passes : l.sending.passes ≡ l.pass;
      sent : IfSome (first.rule l.initial.planner.value) (λ r. (start : ℕ) → first.asked l.initial.planner.value ≡ start + l.initial.sending.passes
          → AreSent (answered r l.last start l.number l.block) l.initial.sending.passes l.initial.sending.last l.initial.sending.ends
          → AreSent (answered r l.last start l.number l.block) l.sending.passes l.sending.last l.sending.ends);
    }
