use Rattle.jx_tier2_reader.proofs.PlanLemmas.{planned_gathered}
use Rattle.jx_tier2_reader.proofs.laws.planned_is_gathered.Goals as goal

pub returns : goal.returns
returns c = planned_gathered
