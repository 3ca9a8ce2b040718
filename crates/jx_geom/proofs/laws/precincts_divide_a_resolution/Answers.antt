use Rattle.jx_geom.proofs.LawLemmas.{place_in_one_precinct, precinct_some, precinct_cell_to, precinct_cell_from}
use Rattle.jx_geom.proofs.laws.precincts_divide_a_resolution.Goals as goal

pub returns-clause-one : goal.returns-clause-one
returns-clause-one c = λ tile s r x y h i. place_in_one_precinct tile s r x y h i

pub returns-clause-some : goal.returns-clause-some
returns-clause-some c = λ tile s r k h lt. precinct_some tile s r k h lt

pub returns-clause-cells : goal.returns-clause-cells
returns-clause-cells c = λ tile s r u v h. (precinct_cell_to tile s r u v h, λ p. precinct_cell_from tile s r u v p.0 p.1 h p.2.0 p.2.1)
