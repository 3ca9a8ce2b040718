use Rattle.jx_mq.proofs.Told.{told}
use Rattle.jx_mq.proofs.laws.ends_are_told.Goals as goal

pub returns : goal.returns
returns c = told
