use Rattle.jx_tier2_writer.proofs.OutputLemmas.{output_strict}
use Rattle.jx_tier2_writer.proofs.laws.output_is_strict.Goals as goal

pub returns : goal.returns
returns c = output_strict
