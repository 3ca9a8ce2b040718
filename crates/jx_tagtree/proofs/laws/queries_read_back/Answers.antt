use Rattle.jx_tagtree.proofs.QuestionLemmas.{all_back}
use Rattle.jx_tagtree.proofs.laws.queries_read_back.Goals as goal

pub returns : goal.returns
returns c = λ wide high leaves values qs rest behind a at v same. all_back wide high leaves values qs rest behind a at v same
