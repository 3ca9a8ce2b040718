use Rattle.jx_tagtree.proofs.QuestionLemmas.{fresh_tree, fresh_values}
use Rattle.jx_tagtree.proofs.laws.nothing_known.Goals as goal

pub returns-clause-tree : goal.returns-clause-tree
returns-clause-tree c = λ wide high s. fresh_tree wide high

pub returns-clause-values : goal.returns-clause-values
returns-clause-values c = λ wide high values s v. fresh_values wide high values v
