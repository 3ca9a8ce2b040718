use Rattle.std.proofs.Common.{◌∙◌, ap, sym}
use Rattle.jx_plan.proofs.QuestionLemmas.{first_at, none_more}
use Rattle.jx_plan.proofs.planning.first_serving.Goals as goal

pub returns-then-does_serve-clause-some : goal.returns-then-does_serve-clause-some
returns-then-does_serve-clause-some g c =
    first_at (λ b. (goal.LayerPlanner-dyn g (b.vtable, b.value)).serves_text b.value c.args.words.now) c.args.planners.now c.loop-place.place c.index-planners-place.result c.loop-place-test.true (ap (λ b. (goal.LayerPlanner-dyn g (b.vtable, b.value)).serves_text b.value c.args.words.now) (sym c.index-planners-place.is) ∙ sym c.does_serve.ensures ∙ c.if-does_serve.true) c.loop-place.invariant

pub loop-place-preserved : goal.loop-place-preserved
loop-place-preserved g c =
    none_more (λ b. (goal.LayerPlanner-dyn g (b.vtable, b.value)).serves_text b.value c.args.words.now) c.args.planners.now c.loop-place.place c.index-planners-place.result c.loop-place-test.true (ap (λ b. (goal.LayerPlanner-dyn g (b.vtable, b.value)).serves_text b.value c.args.words.now) (sym c.index-planners-place.is) ∙ sym c.does_serve.ensures ∙ c.if-does_serve.false) c.loop-place.invariant
