use Rattle.jx_tagtree.proofs.QuestionLemmas.{past_nothing, past_stays}
use Rattle.jx_tagtree.proofs.laws.past_reads_nothing.Goals as goal

pub returns-clause-nothing : goal.returns-clause-nothing
returns-clause-nothing c = past_nothing

pub returns-clause-still : goal.returns-clause-still
returns-clause-still c = past_stays
