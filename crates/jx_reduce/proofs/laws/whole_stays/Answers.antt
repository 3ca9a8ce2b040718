use Rattle.jx_reduce.proofs.WholeLemmas.{blocks_whole, no_choice, stream_whole}
use Rattle.jx_reduce.proofs.laws.whole_stays.Goals as goal

pub returns-clause-stream : goal.returns-clause-stream
returns-clause-stream c = stream_whole

pub returns-clause-blocks : goal.returns-clause-blocks
returns-clause-blocks c = blocks_whole

pub returns-clause-free : goal.returns-clause-free
returns-clause-free c = no_choice
