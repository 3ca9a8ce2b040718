use Rattle.jx_geom.proofs.LawLemmas.{place_in_one_block, block_some}
use Rattle.jx_geom.proofs.laws.blocks_divide_a_band.Goals as goal

pub returns-clause-one : goal.returns-clause-one
returns-clause-one c = λ tile s r b x y h i. place_in_one_block tile s r b x y h i

pub returns-clause-some : goal.returns-clause-some
returns-clause-some c = λ tile s r b i h lt. block_some tile s r b i h lt
