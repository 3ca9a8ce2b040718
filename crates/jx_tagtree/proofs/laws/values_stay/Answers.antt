use Rattle.jx_tagtree.proofs.QuestionLemmas.{after_tree, after_values}
use Rattle.jx_tagtree.proofs.laws.values_stay.Goals as goal

pub returns-clause-tree : goal.returns-clause-tree
returns-clause-tree c = λ tree values leaf t s is lt v. after_tree tree leaf t s is lt values v

pub returns-clause-values : goal.returns-clause-values
returns-clause-values c = λ tree values leaf t s is lt v. after_values tree leaf t s is lt values v
