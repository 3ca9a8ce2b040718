use Rattle.jx_progression.proofs.RiseLemmas.{order_rises}
use Rattle.jx_progression.proofs.laws.layers_rise.Goals as goal

pub returns : goal.returns
returns c = order_rises
