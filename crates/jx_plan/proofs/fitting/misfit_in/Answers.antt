use Rattle.std.proofs.Common.{Some}
use Rattle.jx_plan.proofs.FitLemmas.{all_done, all_next, misfit_here}
use Rattle.jx_plan.proofs.fitting.misfit_in.Goals as goal

pub returns-in-Some : goal.returns-in-Some
returns-in-Some c =
    misfit_here (Some c.args.items.now) c.args.shapes.now c.loop-comp.comp _ c.loop-comp-test.true c.misfit_at.result c.in-Some.res c.misfit_at.ensures.place.0 c.misfit_at.ensures.place.1
    c.misfit_at.ensures.across c.misfit_at.ensures.down c.in-Some.ensures c.loop-comp.invariant

pub loop-comp-preserved : goal.loop-comp-preserved
loop-comp-preserved c =
    all_next (Some c.args.items.now) c.args.shapes.now c.loop-comp.comp _ c.loop-comp-test.true c.in-None.ensures c.loop-comp.invariant

pub returns : goal.returns
returns c = all_done (Some c.args.items.now) c.args.shapes.now c.loop-comp.comp c.loop-comp-test.false c.loop-comp.invariant
