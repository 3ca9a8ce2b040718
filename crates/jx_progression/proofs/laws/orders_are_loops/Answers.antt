use Rattle.jx_progression.proofs.LoopLaws.{loops_sent, order_is_loops, loops_order}
use Rattle.jx_progression.proofs.laws.orders_are_loops.Goals as goal

pub returns-clause-entry : goal.returns-clause-entry
returns-clause-entry c = loops_sent

pub returns-clause-order : goal.returns-clause-order
returns-clause-order c = order_is_loops

pub returns-clause-there : goal.returns-clause-there
returns-clause-there c = loops_order
