use Rattle.jx_plan.proofs.FitLemmas.{kept_fits}
use Rattle.jx_plan.proofs.laws.kept_precincts_fit.Goals as goal

pub returns : goal.returns
returns c = kept_fits
