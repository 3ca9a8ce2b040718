use Rattle.jx_tier2_writer.proofs.OutputLemmas.{output_accepted, output_formed, output_gathered}
use Rattle.jx_tier2_writer.proofs.laws.output_is_gathered.Goals as goal

pub returns-clause-blocks : goal.returns-clause-blocks
returns-clause-blocks c = output_gathered

pub returns-clause-accepted : goal.returns-clause-accepted
returns-clause-accepted c = output_accepted

pub returns-clause-formed : goal.returns-clause-formed
returns-clause-formed c = output_formed
