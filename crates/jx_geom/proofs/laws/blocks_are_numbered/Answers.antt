use Rattle.jx_geom.proofs.NumberLemmas.{block_number_below, block_number_grows, block_number_taken}
use Rattle.jx_geom.proofs.laws.blocks_are_numbered.Goals as goal

pub returns-clause-below : goal.returns-clause-below
returns-clause-below c = λ c shapes n h. block_number_below c shapes n h

pub returns-clause-later : goal.returns-clause-later
returns-clause-later c = λ c shapes a b ha hb before. block_number_grows c shapes a b ha hb before

pub returns-clause-taken : goal.returns-clause-taken
returns-clause-taken c = λ canvas shapes k lt. block_number_taken canvas shapes k lt
