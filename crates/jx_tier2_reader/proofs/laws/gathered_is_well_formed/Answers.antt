use Rattle.jx_tier2_reader.proofs.GatherLemmas.{well_formed}
use Rattle.jx_tier2_reader.proofs.laws.gathered_is_well_formed.Goals as goal

pub returns : goal.returns
returns c = well_formed
