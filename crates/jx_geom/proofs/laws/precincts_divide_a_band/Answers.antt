use Rattle.jx_geom.proofs.LawLemmas.{place_in_one_part, part_stands_beside}
use Rattle.jx_geom.proofs.laws.precincts_divide_a_band.Goals as goal

pub returns-clause-one : goal.returns-clause-one
returns-clause-one c = λ tile s r b x y h le there i. place_in_one_part tile s r b x y h le there i

pub returns-clause-beside : goal.returns-clause-beside
returns-clause-beside c = λ tile s r b k x y h some le there. part_stands_beside tile s r b k x y h some le there
