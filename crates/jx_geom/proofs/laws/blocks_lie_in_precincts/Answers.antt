use Rattle.jx_geom.proofs.LawLemmas.{block_in_one_precinct, block_within_precinct}
use Rattle.jx_geom.proofs.laws.blocks_lie_in_precincts.Goals as goal

pub returns-clause-one : goal.returns-clause-one
returns-clause-one c = λ tile s r b i h le there lt. block_in_one_precinct tile s r b i h le there lt

pub returns-clause-within : goal.returns-clause-within
returns-clause-within c = λ tile s r b i k x y h there p. block_within_precinct tile s r b i k x y h there p
