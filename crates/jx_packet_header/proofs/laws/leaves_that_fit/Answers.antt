use Rattle.jx_packet_header.proofs.PlanLemmas.{fit_range}
use Rattle.jx_packet_header.proofs.laws.leaves_that_fit.Goals as goal

pub returns : goal.returns
returns c = fit_range
