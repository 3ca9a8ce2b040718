use Rattle.jx_plan.proofs.CoverLemmas.{written_whole}
use Rattle.jx_plan.proofs.ViewLemmas.{more_whole}
use Rattle.jx_plan.proofs.laws.written_is_covered.Goals as goal

pub returns-clause-written : goal.returns-clause-written
returns-clause-written c = written_whole

pub returns-clause-more : goal.returns-clause-more
returns-clause-more c = λ s other t more inside whole. more_whole s other more t inside whole
