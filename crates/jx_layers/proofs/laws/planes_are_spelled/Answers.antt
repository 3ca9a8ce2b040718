use Rattle.std.proofs.Common.{arith}
use Rattle.jx_layers.proofs.SpellLemmas.{number_spelled, planes_read, planes_fit}
use Rattle.jx_layers.proofs.laws.planes_are_spelled.Goals as goal

pub returns-clause-spelled : goal.returns-clause-spelled
returns-clause-spelled c = λ q some most. number_spelled 74 q (omega arith) some most

pub returns-clause-read : goal.returns-clause-read
returns-clause-read c = λ text q is. planes_read text q is

pub returns-clause-fits : goal.returns-clause-fits
returns-clause-fits c = λ text facts small. planes_fit text facts small
