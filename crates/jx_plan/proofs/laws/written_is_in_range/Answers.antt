use Rattle.jx_plan.proofs.RangeLemmas.{written_in_range}
use Rattle.jx_plan.proofs.laws.written_is_in_range.Goals as goal

pub returns : goal.returns
returns c = written_in_range
