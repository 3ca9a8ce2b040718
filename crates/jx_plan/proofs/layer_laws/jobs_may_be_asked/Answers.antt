use Rattle.jx_plan.proofs.CausalLemmas.{asked_of}
use Rattle.jx_plan.proofs.layer_laws.jobs_may_be_asked.Goals as goal

pub returns : goal.returns
returns c = λ style rule layers blocks number b job sound clear is. asked_of style rule layers blocks number b job sound clear is
