use Rattle.jx_tier2_reader.proofs.AnotherLemmas.{blocks_of_other}
use Rattle.jx_tier2_reader.proofs.laws.blocks_of_another.Goals as goal

pub returns : goal.returns
returns c = blocks_of_other
