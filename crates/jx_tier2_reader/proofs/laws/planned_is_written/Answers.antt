use Rattle.jx_tier2_reader.proofs.PlanLemmas.{planned_written}
use Rattle.jx_tier2_reader.proofs.laws.planned_is_written.Goals as goal

pub returns-clause-written : goal.returns-clause-written
returns-clause-written c = λ b s t blocks packets read none inside are sound planned. (planned_written b s t blocks packets read none inside are sound planned).0

pub returns-clause-carries : goal.returns-clause-carries
returns-clause-carries c = λ b s t blocks packets read none inside are sound planned. (planned_written b s t blocks packets read none inside are sound planned).1
