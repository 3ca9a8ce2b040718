use Rattle.jx_tagtree.proofs.QuestionLemmas.{known_values}
use Rattle.jx_tagtree.proofs.laws.some_values.Goals as goal

pub returns : goal.returns
returns c = λ tree is. known_values tree is
