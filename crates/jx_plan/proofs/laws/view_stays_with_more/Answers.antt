use Rattle.jx_plan.proofs.ViewLemmas.{more_geometry}
use Rattle.jx_plan.proofs.MoreLemmas.{params_with_more, step_with_more, planes_with_more, shapes_with_more, layers_with_more, style_with_more, entries_with_more, fault_with_more}
use Rattle.jx_plan.proofs.laws.view_stays_with_more.Goals as goal

pub returns-clause-params : goal.returns-clause-params
returns-clause-params c = λ s other t comp more. params_with_more s other more t comp

pub returns-clause-steps : goal.returns-clause-steps
returns-clause-steps c = λ s other t comp r band more. step_with_more s other more t comp r band

pub returns-clause-planes : goal.returns-clause-planes
returns-clause-planes c = λ s other t comp r band more. planes_with_more s other more t comp r band

pub returns-clause-shapes : goal.returns-clause-shapes
returns-clause-shapes c = λ s other t more. shapes_with_more s other more t

pub returns-clause-layers : goal.returns-clause-layers
returns-clause-layers c = λ s other t more. layers_with_more s other more t

pub returns-clause-styles : goal.returns-clause-styles
returns-clause-styles c = λ s other t comp more. style_with_more s other more t comp

pub returns-clause-entries : goal.returns-clause-entries
returns-clause-entries c = λ s other more. entries_with_more s other more

pub returns-clause-over : goal.returns-clause-over
returns-clause-over c = λ s other more. fault_with_more s other more

pub returns-clause-geometries : goal.returns-clause-geometries
returns-clause-geometries c = λ s other t more. more_geometry s other more t
