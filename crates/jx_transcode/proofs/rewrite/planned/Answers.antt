use Rattle.std.proofs.Common.{arith, refl}
use Rattle.jx_rounds.proofs.FrontLemmas.{planned_few}
use Rattle.jx_transcode.proofs.MisfitLemmas.{caused_tile, so, told_on}
use Rattle.jx_transcode.proofs.rewrite.planned.Goals as goal

pub plan_served-requires-clause-may : goal.plan_served-requires-clause-may
plan_served-requires-clause-may g c = rw (c.shortened.ensures, c.deref-blocks.ensures.value) c.requires.may

pub overflow_cast-blocks : goal.overflow_cast-blocks
overflow_cast-blocks g c = omega (arith, planned_few c.args.picture.now.stream c.deref-blocks.result.now (rw c.deref-blocks.ensures.value c.requires.may))

pub misfit_of-misfit-requires-clause-range : goal.misfit_of-misfit-requires-clause-range
misfit_of-misfit-requires-clause-range g c = c.requires.may.range

pub misfit_of-misfit-requires-clause-tile : goal.misfit_of-misfit-requires-clause-tile
misfit_of-misfit-requires-clause-tile g c = caused_tile _ c.args.picture.now.stream _ c.args.options.now c.in-Err.fault c.in-Err.ensures.cause

pub returns-in-Ok-clause-plan : goal.returns-in-Ok-clause-plan
returns-in-Ok-clause-plan g c = so c.in-Ok.ensures.planned (rw (c.shortened.ensures, c.deref-blocks.ensures.value) (λ is. is))

pub returns-in-Err-clause-err : goal.returns-in-Err-clause-err
returns-in-Err-clause-err g c = record {
  why = c.in-Err.fault;
  cause = so c.in-Err.ensures.cause (rw (c.shortened.ensures, c.deref-blocks.ensures.value) (λ is. is));
  status_is = c.unplanned_by.ensures.status;
  count_is = so c.unplanned_by.ensures.blocks.0 (rw c.deref-blocks.ensures.value (λ is. is));
  none = c.unplanned_by.ensures.blocks.1;
  tape = c.unplanned_by.ensures.tape;
  misfit = told_on _ _ c.misfit_of-misfit.result c.unplanned_by.result.misfit c.unplanned_by.ensures.misfit (λ m is. is) c.misfit_of-misfit.ensures;
}
