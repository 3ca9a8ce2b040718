use Rattle.jx_plan.specs.Layers.{layer_at}
use Rattle.jx_plan.proofs.OneLemmas.{layers_below, one_ends}
use Rattle.jx_plan.proofs.layer_laws.jobs_are_determined.Goals as goal

pub returns-clause-one : goal.returns-clause-one
returns-clause-one c = λ style rule layers blocks number b job other is too.
    one_ends (layer_at rule layers blocks number b) 0 0 0 b.passes job.ends other.ends is.ends too.ends is.layers_are too.layers_are

pub returns-clause-written : goal.returns-clause-written
returns-clause-written c = λ style rule layers blocks number b job some is. layers_below style rule layers blocks number b job some is
