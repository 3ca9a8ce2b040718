use Rattle.jx_plan.proofs.ReadLemmas.{read_stands}
use Rattle.jx_plan.proofs.laws.read_headers_stand.Goals as goal

pub returns : goal.returns
returns c = read_stands
