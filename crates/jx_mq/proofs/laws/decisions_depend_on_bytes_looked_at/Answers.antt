use Rattle.jx_mq.proofs.Looking.{same_decisions, cut_decisions, dropped_decisions, looked_more}
use Rattle.jx_mq.proofs.laws.decisions_depend_on_bytes_looked_at.Goals as goal

pub returns-clause-same : goal.returns-clause-same
returns-clause-same c = same_decisions

pub returns-clause-cut : goal.returns-clause-cut
returns-clause-cut c = cut_decisions

pub returns-clause-dropped : goal.returns-clause-dropped
returns-clause-dropped c = dropped_decisions

pub returns-clause-more : goal.returns-clause-more
returns-clause-more c = looked_more
