use Rattle.jx_generate.proofs.DrawnLemmas.{pass_layer}
use Rattle.jx_generate.proofs.laws.passes_lie_in_layers.Goals as goal

pub returns : goal.returns
returns c = pass_layer
