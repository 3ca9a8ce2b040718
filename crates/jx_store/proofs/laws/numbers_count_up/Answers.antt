use Rattle.jx_store.proofs.NumberLemmas.{length_numbers, number_in, numbers_then}
use Rattle.jx_store.proofs.laws.numbers_count_up.Goals as goal

pub returns-clause-count : goal.returns-clause-count
returns-clause-count c = length_numbers

pub returns-clause-at : goal.returns-clause-at
returns-clause-at c = number_in

pub returns-clause-more : goal.returns-clause-more
returns-clause-more c = numbers_then
