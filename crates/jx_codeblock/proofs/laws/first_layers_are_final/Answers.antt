use Rattle.jx_codeblock.proofs.FinalLemmas.{first_layers}
use Rattle.jx_codeblock.proofs.laws.first_layers_are_final.Goals as goal

pub returns : goal.returns
returns c asked ends b layer may right = first_layers c.coded_anew_keeps_coefficients.ensures.first asked ends b layer may right
