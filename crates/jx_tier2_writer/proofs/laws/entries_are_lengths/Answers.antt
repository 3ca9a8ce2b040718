use Rattle.jx_tier2_writer.proofs.FindLemmas.{entries_long}
use Rattle.jx_tier2_writer.proofs.OutputLemmas.{few_entries}
use Rattle.jx_tier2_writer.proofs.laws.entries_are_lengths.Goals as goal

pub returns-clause-lengths : goal.returns-clause-lengths
returns-clause-lengths c = entries_long

pub returns-clause-few : goal.returns-clause-few
returns-clause-few c = few_entries
