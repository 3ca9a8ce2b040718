use Rattle.jx_tier2_writer.proofs.OutputLemmas.{output_keeps}
use Rattle.jx_tier2_writer.proofs.laws.output_keeps_blocks.Goals as goal

pub returns : goal.returns
returns c = output_keeps
