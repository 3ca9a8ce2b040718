use Rattle.jx_codestream.proofs.FrontLemmas as front
use Rattle.jx_codestream.proofs.laws.one_first.Goals as goal

pub returns : goal.returns
returns c = front.one_first
