use Rattle.std.proofs.Common.{◌≡◌, ap, inr, rules}
use Rattle.std.proofs.lemmas.Result.{IfErr-weaker}
use Rattle.jx_options.specs.Wanted.{Wanted}
use Rattle.jx_plan.proofs.LayerLaws.{CrowdLaws}
use Rattle.jx_plan.proofs.PlanLemmas.{few_blocks}
use Rattle.jx_plan.proofs.PlannedLemmas.{planned_below, planned_each, too_much}
use Rattle.jx_plan.specs.Questions.{questions}
use Rattle.jx_plan.proofs.QuestionLemmas.{asked_by}
use Rattle.jx_plan.proofs.planning.plan_with.Goals as goal

pub facts_of-requires-clause-few : goal.facts_of-requires-clause-few
facts_of-requires-clause-few g c = few_blocks c.args.stream.now c.args.blocks.now c.requires.may

pub plan_by-requires-clause-few : goal.plan_by-requires-clause-few
plan_by-requires-clause-few g c = few_blocks c.args.stream.now c.args.blocks.now c.requires.may

pub plan_jobs-requires-clause-each : goal.plan_jobs-requires-clause-each
plan_jobs-requires-clause-each g c =
    planned_each c.options.inside.style c.args.options.now.style c.args.blocks.now _ _ c.in-Ok.layers c.in-Ok.jobs.items (ap (λ (w : Wanted). w.style) c.options.view_is)
    c.requires.may.sound c.requires.whole c.in-Ok.ensures.planned

pub plan_jobs-requires-clause-below : goal.plan_jobs-requires-clause-below
plan_jobs-requires-clause-below g c = planned_below c.options.inside.style c.args.blocks.now _ _ c.in-Ok.layers c.in-Ok.jobs.items c.in-Ok.ensures.planned

pub returns-in-Ok-clause-cause : goal.returns-in-Ok-clause-cause
returns-in-Ok-clause-cause g c =
    let crowds : CrowdLaws = record {
      jobs = c.crowds_are_told.ensures.jobs;
      some = c.crowds_are_told.ensures.some;
      one = c.crowds_are_told.ensures.one;
      few = c.crowds_are_told.ensures.few;
    } in
    let text : c.deref.result.now ≡ c.args.options.now.layers = search rules in
    IfErr-weaker c.plan_jobs.result _ _
    (λ e much. inr (too_much crowds c.args.stream.now c.args.blocks.now c.args.options.now c.requires.fits c.options.inside.style
    ((goal.LayerPlanner-dyn g (c.args.planner.now.vtable, c.args.planner.now.value)).rule_of c.args.planner.now.value) c.deref.result.now c.args.options.now.layers c.in_ok-facts.facts
    c.in-Ok.layers c.in-Ok.jobs.items (ap (λ (w : Wanted). w.style) c.options.view_is) text c.in_ok-facts.ensures c.in-Ok.ensures.planned e much))
    c.plan_jobs.ensures.cause

pub returns-in-Ok-clause-asked : goal.returns-in-Ok-clause-asked
returns-in-Ok-clause-asked g c =
    asked_by c.args.stream.now c.args.options.now c.in-Ok.layers c.in-Ok.jobs.items ((goal.LayerPlanner-dyn g (c.args.planner.now.vtable, c.args.planner.now.value)).asked c.args.planner.now.value) (questions c.args.blocks.now)
    ((goal.LayerPlanner-dyn g (c.plan_by.new.planner.vtable, c.plan_by.new.planner.value)).asked c.plan_by.new.planner.value) c.plan_jobs.result c.in-Ok.ensures.asked c.plan_jobs.ensures.cause
