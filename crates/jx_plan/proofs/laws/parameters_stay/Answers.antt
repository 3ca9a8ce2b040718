use Rattle.jx_plan.proofs.StreamLemmas.{params_stay, step_stays, planes_stay, shapes_stay, geometry_stays, layers_are, style_stays, tile_number_stays}
use Rattle.jx_plan.proofs.laws.parameters_stay.Goals as goal

pub returns-clause-params : goal.returns-clause-params
returns-clause-params c = λ a s t comp stand. params_stay a s stand t comp

pub returns-clause-steps : goal.returns-clause-steps
returns-clause-steps c = λ a s t comp r band stand. step_stays a s stand t comp r band

pub returns-clause-planes : goal.returns-clause-planes
returns-clause-planes c = λ a s t comp r band stand. planes_stay a s stand t comp r band

pub returns-clause-shapes : goal.returns-clause-shapes
returns-clause-shapes c = λ a s t stand. shapes_stay a s stand t

pub returns-clause-geometries : goal.returns-clause-geometries
returns-clause-geometries c = λ a s t stand. geometry_stays a s stand t

pub returns-clause-layers : goal.returns-clause-layers
returns-clause-layers c = λ a s t stand. layers_are a s stand t

pub returns-clause-styles : goal.returns-clause-styles
returns-clause-styles c = λ a s t comp stand. style_stays a s stand t comp

pub returns-clause-tiles : goal.returns-clause-tiles
returns-clause-tiles c = tile_number_stays
