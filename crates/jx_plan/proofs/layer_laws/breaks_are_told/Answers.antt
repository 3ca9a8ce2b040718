use Rattle.jx_plan.specs.Causal.{breaks_plane}
use Rattle.jx_plan.proofs.CausalLemmas.{broken, kept, none_at}
use Rattle.jx_plan.proofs.layer_laws.breaks_are_told.Goals as goal

pub returns-clause-kept : goal.returns-clause-kept
returns-clause-kept c = λ style b clear. kept style b clear

pub returns-clause-broken : goal.returns-clause-broken
returns-clause-broken c = λ style b breaks keeps. broken style b breaks keeps

pub returns-clause-none : goal.returns-clause-none
returns-clause-none c = λ style blocks none. none_at (breaks_plane style) blocks none
