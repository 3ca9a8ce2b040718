use Rattle.jx_tier2_reader.proofs.KeptLemmas.{carried_gathered}
use Rattle.jx_tier2_reader.proofs.laws.carried_is_gathered.Goals as goal

pub returns : goal.returns
returns c = carried_gathered
