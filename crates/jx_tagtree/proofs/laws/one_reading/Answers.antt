use Rattle.jx_tagtree.proofs.QuestionLemmas.{all_one}
use Rattle.jx_tagtree.proofs.laws.one_reading.Goals as goal

pub returns : goal.returns
returns c = λ tree values others qs rest behind s is at v w same. all_one tree values others qs rest behind s is at v w same
