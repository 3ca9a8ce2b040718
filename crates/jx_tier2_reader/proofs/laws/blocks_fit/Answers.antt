use Rattle.jx_tier2_reader.proofs.FitLemmas.{blocks_fit}
use Rattle.jx_tier2_reader.proofs.laws.blocks_fit.Goals as goal

pub returns-clause-fit : goal.returns-clause-fit
returns-clause-fit c = λ b s t blocks comp res precinct read none inside are sound has. (blocks_fit b s t blocks comp res precinct read none inside are sound has).0

pub returns-clause-types : goal.returns-clause-types
returns-clause-types c = λ b s t blocks comp res precinct read none inside are sound has. (blocks_fit b s t blocks comp res precinct read none inside are sound has).1
