use Rattle.std.proofs.Common.{◌≡◌, ◌∙◌, List, Option, IfOk, MatchResult, ap, inr, refl, sym, subst}
use Rattle.std.proofs.lemmas.Result.{IfErr-weaker}
use Rattle.jx_plan.specs.Facts.{facts_of}
use Rattle.jx_layers.specs.Rule.{Rule}
use Rattle.jx_options.specs.Wanted.{Wanted}
use Rattle.jx_plan.specs.declared.faults.PlanFault.TheVariants as fault
use Rattle.jx_plan.specs.Planned.{HasPlanCause, IsPlanned, chosen}
use Rattle.jx_plan.specs.Questions.{HasNone, IsAskedAfter, IsFirstOf, questions}
use Rattle.jx_plan.proofs.QuestionLemmas.{at_first, at_none, at_same, chosen_at, chosen_none}
use Rattle.jx_plan.proofs.planning.plan_served.Goals as goal

pub returns-in-Err-clause-asked : goal.returns-in-Err-clause-asked
returns-in-Err-clause-asked g c =
    at_same (λ b. (goal.LayerPlanner-dyn g (b.vtable, b.value)).serves_text b.value c.args.options.now.layers)
    (λ b d. IsAskedAfter ((goal.LayerPlanner-dyn g (b.vtable, b.value)).asked b.value) (questions c.args.blocks.now) c.in-Err.fault ((goal.LayerPlanner-dyn g (d.vtable, d.value)).asked d.value))
    c.args.planners.now (λ b. c.in-Err.ensures.unasked ((goal.LayerPlanner-dyn g (b.vtable, b.value)).asked b.value) (questions c.args.blocks.now))

pub returns-in-Some-clause-planned : goal.returns-in-Some-clause-planned
returns-in-Some-clause-planned g c =
    let text : c.deref.result.now ≡ c.args.options.now.layers = c.deref.ensures ∙ ap (λ (w : Wanted). w.layers) c.options.view_is in
    let first = subst (λ (word : List _). IsFirstOf (λ b. (goal.LayerPlanner-dyn g (b.vtable, b.value)).serves_text b.value word) c.args.planners.now c.in-Some.place) text c.in-Some.ensures.some in
    let is = chosen_at (λ b. (goal.LayerPlanner-dyn g (b.vtable, b.value)).serves_text b.value c.args.options.now.layers)
    (λ b. (goal.LayerPlanner-dyn g (b.vtable, b.value)).rule_of b.value c.args.options.now.layers (facts_of c.args.stream.now c.args.blocks.now)) c.args.planners.now c.in-Some.place c.index-planners-place.result first in
    subst (λ (o : Option Rule). IfOk c.plan_with.result (λ p. IsPlanned o c.args.stream.now c.args.blocks.now c.args.options.now p)) (sym is) c.plan_with.ensures.planned

pub returns-in-Some-clause-cause : goal.returns-in-Some-clause-cause
returns-in-Some-clause-cause g c =
    let text : c.deref.result.now ≡ c.args.options.now.layers = c.deref.ensures ∙ ap (λ (w : Wanted). w.layers) c.options.view_is in
    let first = subst (λ (word : List _). IsFirstOf (λ b. (goal.LayerPlanner-dyn g (b.vtable, b.value)).serves_text b.value word) c.args.planners.now c.in-Some.place) text c.in-Some.ensures.some in
    let is = chosen_at (λ b. (goal.LayerPlanner-dyn g (b.vtable, b.value)).serves_text b.value c.args.options.now.layers)
    (λ b. (goal.LayerPlanner-dyn g (b.vtable, b.value)).rule_of b.value c.args.options.now.layers (facts_of c.args.stream.now c.args.blocks.now)) c.args.planners.now c.in-Some.place c.index-planners-place.result first in
    IfErr-weaker c.plan_with.result _ (λ e. HasPlanCause (chosen (λ b. (goal.LayerPlanner-dyn g (b.vtable, b.value)).serves_text b.value c.args.options.now.layers)
    (λ b. (goal.LayerPlanner-dyn g (b.vtable, b.value)).rule_of b.value c.args.options.now.layers (facts_of c.args.stream.now c.args.blocks.now)) c.args.planners.now) c.args.stream.now c.args.blocks.now c.args.options.now e)
    (λ e later. subst (λ (o : Option Rule). HasPlanCause o c.args.stream.now c.args.blocks.now c.args.options.now e) (sym is) (inr (c.in_default.ensures.whole, later))) c.plan_with.ensures.cause

pub returns-in-Some-clause-asked : goal.returns-in-Some-clause-asked
returns-in-Some-clause-asked g c =
    let text : c.deref.result.now ≡ c.args.options.now.layers = c.deref.ensures ∙ ap (λ (w : Wanted). w.layers) c.options.view_is in
    let first = subst (λ (word : List _). IsFirstOf (λ b. (goal.LayerPlanner-dyn g (b.vtable, b.value)).serves_text b.value word) c.args.planners.now c.in-Some.place) text c.in-Some.ensures.some in
    at_first (λ b. (goal.LayerPlanner-dyn g (b.vtable, b.value)).serves_text b.value c.args.options.now.layers)
    (λ b d. MatchResult c.plan_with.result (λ p. (goal.LayerPlanner-dyn g (d.vtable, d.value)).asked d.value ≡ questions c.args.blocks.now)
    (λ e. IsAskedAfter ((goal.LayerPlanner-dyn g (b.vtable, b.value)).asked b.value) (questions c.args.blocks.now) e ((goal.LayerPlanner-dyn g (d.vtable, d.value)).asked d.value)))
    c.args.planners.now c.in-Some.place c.index-planners-place.result c.plan_with.new.planner first
    c.plan_with.ensures.asked

pub returns-in-None-clause-cause : goal.returns-in-None-clause-cause
returns-in-None-clause-cause g c =
    let text : c.deref.result.now ≡ c.args.options.now.layers = c.deref.ensures ∙ ap (λ (w : Wanted). w.layers) c.options.view_is in
    let none = subst (λ (word : List _). HasNone (λ b. (goal.LayerPlanner-dyn g (b.vtable, b.value)).serves_text b.value word) c.args.planners.now) text (c.first_serving.ensures.none c.in-None.is) in
    let is = chosen_none (λ b. (goal.LayerPlanner-dyn g (b.vtable, b.value)).serves_text b.value c.args.options.now.layers)
    (λ b. (goal.LayerPlanner-dyn g (b.vtable, b.value)).rule_of b.value c.args.options.now.layers (facts_of c.args.stream.now c.args.blocks.now)) c.args.planners.now none in
    subst (λ (o : Option Rule). HasPlanCause o c.args.stream.now c.args.blocks.now c.args.options.now (fault.Choice 6 0)) (sym is) (inr (c.in_default.ensures.whole, inr (c.in_default.ensures.fits, refl)))

pub returns-in-None-clause-asked : goal.returns-in-None-clause-asked
returns-in-None-clause-asked g c =
    let text : c.deref.result.now ≡ c.args.options.now.layers = c.deref.ensures ∙ ap (λ (w : Wanted). w.layers) c.options.view_is in
    let none = subst (λ (word : List _). HasNone (λ b. (goal.LayerPlanner-dyn g (b.vtable, b.value)).serves_text b.value word) c.args.planners.now) text (c.first_serving.ensures.none c.in-None.is) in
    at_none (λ b. (goal.LayerPlanner-dyn g (b.vtable, b.value)).serves_text b.value c.args.options.now.layers)
    (λ b d. IsAskedAfter ((goal.LayerPlanner-dyn g (b.vtable, b.value)).asked b.value) (questions c.args.blocks.now) (fault.Choice 6 0) ((goal.LayerPlanner-dyn g (d.vtable, d.value)).asked d.value))
    c.args.planners.now none
