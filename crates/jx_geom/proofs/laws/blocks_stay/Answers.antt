use Rattle.jx_geom.proofs.SameLemmas.{same_there, same_places, same_number, same_block_number}
use Rattle.jx_geom.proofs.laws.blocks_stay.Goals as goal

pub returns-clause-there : goal.returns-clause-there
returns-clause-there c = λ canvas t xs ys n h. same_there canvas t xs ys n h

pub returns-clause-places : goal.returns-clause-places
returns-clause-places c = λ canvas t xs ys n h there. same_places canvas t xs ys n h there

pub returns-clause-number : goal.returns-clause-number
returns-clause-number c = λ canvas t xs ys n h there. same_number canvas t xs ys n h there

pub returns-clause-all : goal.returns-clause-all
returns-clause-all c = λ canvas xs ys n h there. same_block_number canvas xs ys n h there
