use Rattle.std.proofs.Common.{◌++◌}
use Rattle.jx_plan.proofs.MoreLemmas.{more_slots, no_slots, params_same, step_is, planes_are}
use Rattle.jx_plan.proofs.laws.asides_give_nothing.Goals as goal

pub returns-clause-params : goal.returns-clause-params
returns-clause-params c = λ comps own more main comp h. params_same (own ++ more) own main main (more_slots comps own more h) (no_slots main) comp

pub returns-clause-steps : goal.returns-clause-steps
returns-clause-steps c = λ comps own more main comp r band h. step_is (own ++ more) own main main (more_slots comps own more h) (no_slots main) comp r band

pub returns-clause-planes : goal.returns-clause-planes
returns-clause-planes c = λ comps own more main comp r band h. planes_are (own ++ more) own main main (more_slots comps own more h) (no_slots main) comp r band
