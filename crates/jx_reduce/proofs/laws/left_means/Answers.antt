use Rattle.jx_reduce.proofs.HeaderLemmas.{is_clear}
use Rattle.jx_reduce.proofs.MeaningLemmas.{meaning_left}
use Rattle.jx_reduce.proofs.PlanLemmas.{left_may}
use Rattle.jx_reduce.proofs.laws.left_means.Goals as goal

pub returns-clause-may : goal.returns-clause-may
returns-clause-may c = left_may

pub returns-clause-meaning : goal.returns-clause-meaning
returns-clause-meaning c = λ d s blocks stand none. meaning_left d s blocks (is_clear d s none) stand
