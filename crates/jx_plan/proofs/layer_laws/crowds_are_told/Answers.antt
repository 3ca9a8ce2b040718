use Rattle.jx_plan.proofs.LowestLemmas.{lowest_of, none_few, one_lowest, some_lowest}
use Rattle.jx_plan.proofs.layer_laws.crowds_are_told.Goals as goal

pub returns-clause-jobs : goal.returns-clause-jobs
returns-clause-jobs c = λ style rule layers blocks jobs lowest some are is. lowest_of style rule layers blocks jobs some are lowest is

pub returns-clause-some : goal.returns-clause-some
returns-clause-some c = λ rule layers blocks. some_lowest rule layers blocks

pub returns-clause-one : goal.returns-clause-one
returns-clause-one c = λ rule layers blocks a b is_a is_b. one_lowest rule layers blocks a b is_a is_b

pub returns-clause-few : goal.returns-clause-few
returns-clause-few c = λ rule layers blocks n b layer none at. none_few rule layers blocks n b layer none at
