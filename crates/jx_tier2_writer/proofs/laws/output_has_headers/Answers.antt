use Rattle.jx_tier2_writer.proofs.OutputLemmas.{output_headers}
use Rattle.jx_tier2_writer.proofs.laws.output_has_headers.Goals as goal

pub returns : goal.returns
returns c = output_headers
