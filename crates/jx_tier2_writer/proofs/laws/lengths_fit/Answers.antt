use Rattle.jx_tier2_writer.proofs.HeldLemmas.{segments_few, segments_range}
use Rattle.jx_tier2_writer.proofs.laws.lengths_fit.Goals as goal

pub returns-clause-few : goal.returns-clause-few
returns-clause-few c = segments_few

pub returns-clause-range : goal.returns-clause-range
returns-clause-range c = segments_range
