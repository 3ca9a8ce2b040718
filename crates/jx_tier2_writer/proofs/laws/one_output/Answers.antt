use Rattle.jx_tier2_writer.proofs.OutputLemmas.{one_output, one_tile, output_exists}
use Rattle.jx_tier2_writer.proofs.laws.one_output.Goals as goal

pub returns-clause-some : goal.returns-clause-some
returns-clause-some c = output_exists

pub returns-clause-one : goal.returns-clause-one
returns-clause-one c = one_output

pub returns-clause-parts : goal.returns-clause-parts
returns-clause-parts c = one_tile
