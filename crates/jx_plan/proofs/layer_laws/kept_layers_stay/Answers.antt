use Rattle.jx_plan.proofs.OneLemmas.{keeps}
use Rattle.jx_plan.proofs.layer_laws.kept_layers_stay.Goals as goal

pub returns : goal.returns
returns c = λ style layers blocks number b job some sound all is. keeps style layers blocks number b job sound all is
