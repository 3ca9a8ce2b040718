use Rattle.jx_tier2_writer.proofs.OutputLemmas.{output_read}
use Rattle.jx_tier2_writer.proofs.laws.output_is_spelled.Goals as goal

pub returns : goal.returns
returns c = output_read
