use Rattle.jx_mq.proofs.Pace.{short_segment, short_from_fresh}
use Rattle.jx_mq.proofs.laws.segments_are_short.Goals as goal

pub returns-clause-paced : goal.returns-clause-paced
returns-clause-paced c = short_segment

pub returns-clause-fresh : goal.returns-clause-fresh
returns-clause-fresh c = short_from_fresh
