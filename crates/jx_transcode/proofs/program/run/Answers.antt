use Rattle.std.proofs.Common.{map, string_bytes}
use Rattle.jx_transcode.proofs.MisfitLemmas.{each_told, told_on, untold}
use Rattle.jx_transcode.proofs.RunLemmas.{outcome_boxes, outcome_lent, outcome_make, outcome_memory, outcome_same, outcome_show, outcome_transcode}
use Rattle.jx_transcode.proofs.program.run.Goals as goal

pub returns-in-Ok-Transcode-clause-outcome : goal.returns-in-Ok-Transcode-clause-outcome
returns-in-Ok-Transcode-clause-outcome g c = outcome_lent _ c.args.planners.items c.deref_mut.ensures.value (λ b. (goal.LayerPlanner-dyn g (b.vtable, b.value)).serves_text b.value)
    (λ b. (goal.LayerPlanner-dyn g (b.vtable, b.value)).rule_of b.value) _ _ _ _ _ _ _ _
    (outcome_transcode (map string_bytes c.args.words.now) c.in-Ok-Transcode.request _ _ _ _ _ _ _ _ (rw c.in-Ok-Transcode.field-0-is at c.in-Ok-Transcode.ensures.asks) c.run.ensures.ends)

pub returns-in-Ok-Make-clause-outcome : goal.returns-in-Ok-Make-clause-outcome
returns-in-Ok-Make-clause-outcome g c = outcome_lent _ c.args.planners.items c.deref_mut-in-Ok-Make.ensures.value (λ b. (goal.LayerPlanner-dyn g (b.vtable, b.value)).serves_text b.value)
    (λ b. (goal.LayerPlanner-dyn g (b.vtable, b.value)).rule_of b.value) _ _ _ _ _ _ _ _
    (outcome_make (map string_bytes c.args.words.now) c.in-Ok-Make.seed c.in-Ok-Make.width c.in-Ok-Make.height _ _ _ _ _ _ _ _ (rw c.in-Ok-Make.field-0-is at c.in-Ok-Make.ensures.asks)
    (c.run-in-Ok-Make.ensures.ends _))

pub returns-in-Ok-Boxes-clause-outcome : goal.returns-in-Ok-Boxes-clause-outcome
returns-in-Ok-Boxes-clause-outcome g c =
    outcome_boxes (map string_bytes c.args.words.now) c.in-Ok-Boxes.asked _ _ _ _ _ _ _ _ (rw c.in-Ok-Boxes.field-0-is at c.in-Ok-Boxes.ensures.asks) c.run-in-Ok-Boxes.ensures.ends

pub returns-in-Ok-Same-clause-outcome : goal.returns-in-Ok-Same-clause-outcome
returns-in-Ok-Same-clause-outcome g c =
    outcome_same (map string_bytes c.args.words.now) c.in-Ok-Same.names _ _ _ _ _ _ _ _ (rw c.in-Ok-Same.field-0-is at c.in-Ok-Same.ensures.asks) c.run-in-Ok-Same.ensures.ends

pub returns-in-Ok-Show-clause-outcome : goal.returns-in-Ok-Show-clause-outcome
returns-in-Ok-Show-clause-outcome g c =
    outcome_show (map string_bytes c.args.words.now) c.in-Ok-Show.asked _ _ _ _ _ _ _ _ (rw c.in-Ok-Show.field-0-is at c.in-Ok-Show.ensures.asks) c.run-in-Ok-Show.ensures.ends

pub returns-clause-outcome : goal.returns-clause-outcome
returns-clause-outcome g c = rw (c.refuse-in-Err-NoMemory.ensures.none, c.refuse-in-Err-NoMemory.ensures.tape)
    (outcome_memory (map string_bytes c.args.words.now) _ _ _ _ _ _ _ c.refuse-in-Err-NoMemory.ensures.ends)

pub returns-in-Ok-Transcode-clause-misfit : goal.returns-in-Ok-Transcode-clause-misfit
returns-in-Ok-Transcode-clause-misfit g c =
    let asks = rw c.in-Ok-Transcode.field-0-is at c.in-Ok-Transcode.ensures.asks in
    told_on _ _ c.run.result.misfit c.run.result.misfit (each_told c.run.result.misfit) (λ m is. (asks.0, rw (← asks.5) is)) c.run.ensures.misfit

pub returns-in-Ok-Make-clause-misfit : goal.returns-in-Ok-Make-clause-misfit
returns-in-Ok-Make-clause-misfit g c = untold _ c.run-in-Ok-Make.result.misfit c.run-in-Ok-Make.ensures.misfit

pub returns-in-Ok-Boxes-clause-misfit : goal.returns-in-Ok-Boxes-clause-misfit
returns-in-Ok-Boxes-clause-misfit g c = untold _ c.run-in-Ok-Boxes.result.misfit c.run-in-Ok-Boxes.ensures.misfit

pub returns-in-Ok-Same-clause-misfit : goal.returns-in-Ok-Same-clause-misfit
returns-in-Ok-Same-clause-misfit g c = untold _ c.run-in-Ok-Same.result.misfit c.run-in-Ok-Same.ensures.misfit

pub returns-in-Ok-Show-clause-misfit : goal.returns-in-Ok-Show-clause-misfit
returns-in-Ok-Show-clause-misfit g c = untold _ c.run-in-Ok-Show.result.misfit c.run-in-Ok-Show.ensures.misfit

pub returns-clause-misfit : goal.returns-clause-misfit
returns-clause-misfit g c = untold _ c.refuse-in-Err-NoMemory.result.misfit c.refuse-in-Err-NoMemory.ensures.misfit
