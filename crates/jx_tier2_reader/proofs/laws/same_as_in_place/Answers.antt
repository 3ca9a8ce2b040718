use Rattle.jx_tier2_reader.proofs.InPlaceTiles.{placed_fills, placed_founds, placed_names}
use Rattle.jx_tier2_reader.proofs.laws.same_as_in_place.Goals as goal

pub returns-clause-cut : goal.returns-clause-cut
returns-clause-cut c = λ b file g number bodies old here cuts new packed groups are is none same first filled e.
    placed_fills b file g groups number bodies old here cuts new packed are is none same first filled e

pub returns-clause-names : goal.returns-clause-names
returns-clause-names c = placed_names

pub returns-clause-pieces : goal.returns-clause-pieces
returns-clause-pieces c = placed_founds
