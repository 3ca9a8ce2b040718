use Rattle.jx_tier2_writer.proofs.TellLemmas.{all_told}
use Rattle.jx_tier2_writer.proofs.laws.lengths_are_told.Goals as goal

pub returns : goal.returns
returns c = all_told
