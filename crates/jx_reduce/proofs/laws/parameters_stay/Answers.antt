use Rattle.jx_reduce.proofs.GeometryLemmas.{planes_stay, step_stays}
use Rattle.jx_reduce.proofs.ParameterLemmas.{layers_same, style_same}
use Rattle.jx_reduce.proofs.laws.parameters_stay.Goals as goal

pub returns-clause-steps : goal.returns-clause-steps
returns-clause-steps c = λ d s t comp r b stand none has. step_stays d s t comp r stand none has b

pub returns-clause-planes : goal.returns-clause-planes
returns-clause-planes c = λ d s t comp r b stand none has. planes_stay d s t comp r stand none has b

pub returns-clause-layers : goal.returns-clause-layers
returns-clause-layers c = layers_same

pub returns-clause-styles : goal.returns-clause-styles
returns-clause-styles c = style_same
