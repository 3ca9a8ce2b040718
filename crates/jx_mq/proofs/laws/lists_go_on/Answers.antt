use Rattle.jx_mq.proofs.Looking.{in_parts}
use Rattle.jx_mq.proofs.Inversion.{written_in_parts}
use Rattle.jx_mq.proofs.laws.lists_go_on.Goals as goal

pub returns-clause-read : goal.returns-clause-read
returns-clause-read c s r x first more = in_parts first more s r x

pub returns-clause-written : goal.returns-clause-written
returns-clause-written c w x first more = written_in_parts first more w x
