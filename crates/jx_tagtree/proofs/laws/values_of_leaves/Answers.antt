use Rattle.jx_tagtree.proofs.LeafLemmas.{least_are_values, least_of_leaf, is_least}
use Rattle.jx_tagtree.proofs.laws.values_of_leaves.Goals as goal

pub returns-clause-values : goal.returns-clause-values
returns-clause-values c = λ wide high leaves a. least_are_values wide high leaves a.shape a.all

pub returns-clause-leaf : goal.returns-clause-leaf
returns-clause-leaf c = λ wide high leaves l a lt. least_of_leaf wide high leaves l a.shape a.all a.fit lt

pub returns-clause-least : goal.returns-clause-least
returns-clause-least c = λ wide high leaves n a le. is_least wide high leaves n a le
