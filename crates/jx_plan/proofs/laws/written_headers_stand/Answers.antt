use Rattle.jx_plan.proofs.RangeLemmas.{written_stands}
use Rattle.jx_plan.proofs.laws.written_headers_stand.Goals as goal

pub returns : goal.returns
returns c = written_stands
