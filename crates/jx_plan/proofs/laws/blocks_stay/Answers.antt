use Rattle.jx_plan.proofs.ViewLemmas.{written_blocks, more_blocks, blocks_through}
use Rattle.jx_plan.proofs.laws.blocks_stay.Goals as goal

pub returns-clause-written : goal.returns-clause-written
returns-clause-written c = written_blocks

pub returns-clause-more : goal.returns-clause-more
returns-clause-more c = more_blocks

pub returns-clause-through : goal.returns-clause-through
returns-clause-through c = blocks_through
