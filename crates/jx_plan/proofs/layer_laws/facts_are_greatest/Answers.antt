use Rattle.jx_plan.proofs.FactLemmas.{layers_most, layers_reached, planes_most}
use Rattle.jx_plan.proofs.layer_laws.facts_are_greatest.Goals as goal

pub returns-clause-layers : goal.returns-clause-layers
returns-clause-layers c = λ s t lt. layers_most s t lt

pub returns-clause-reached : goal.returns-clause-reached
returns-clause-reached c = λ s some. layers_reached s some

pub returns-clause-planes : goal.returns-clause-planes
returns-clause-planes c = λ blocks n b is. planes_most blocks n b is
