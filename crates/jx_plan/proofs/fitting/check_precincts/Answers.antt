use Rattle.std.proofs.Common.{ℕ, List, Option, subst}
use Rattle.jx_plan.specs.Fits.{Fits}
use Rattle.jx_plan.proofs.FitLemmas.{kept_fits}
use Rattle.jx_plan.proofs.fitting.check_precincts.Goals as goal

pub returns-in-None-clause-fits : goal.returns-in-None-clause-fits
returns-in-None-clause-fits c =
    subst (λ (o : Option (List ℕ)). Fits o c.args.stream.now) c.in-None.ensures (kept_fits c.args.stream.now c.requires.headers)
