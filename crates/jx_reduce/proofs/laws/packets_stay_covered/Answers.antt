use Rattle.jx_reduce.proofs.GeometryLemmas.{covered_stays}
use Rattle.jx_reduce.proofs.laws.packets_stay_covered.Goals as goal

pub returns : goal.returns
returns c = covered_stays
