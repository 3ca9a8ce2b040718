use Rattle.jx_geom.proofs.TileLemmas.{place_in_one_tile, tile_some}
use Rattle.jx_geom.proofs.laws.tiles_divide_the_picture.Goals as goal

pub returns-clause-one : goal.returns-clause-one
returns-clause-one c = λ c x y h i. place_in_one_tile c x y h i

pub returns-clause-some : goal.returns-clause-some
returns-clause-some c = λ c t h lt. tile_some c t h lt
