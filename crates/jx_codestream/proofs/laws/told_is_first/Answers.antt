use Rattle.jx_codestream.proofs.FrontLemmas as front
use Rattle.jx_codestream.proofs.laws.told_is_first.Goals as goal

pub returns : goal.returns
returns c = front.told_is_first
