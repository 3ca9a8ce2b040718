use Rattle.jx_codestream.proofs.ViolatedLemmas as violated
use Rattle.jx_codestream.proofs.laws.first_is_told.Goals as goal

pub returns : goal.returns
returns c = violated.first_is_told
