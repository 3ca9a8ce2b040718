use Rattle.jx_codestream.proofs.FrontLemmas as front
use Rattle.jx_codestream.proofs.ViolatedLemmas as violated
use Rattle.jx_codestream.proofs.laws.violated_or_spelled.Goals as goal

pub returns-clause-either : goal.returns-clause-either
returns-clause-either c = violated.either_way

pub returns-clause-never_both : goal.returns-clause-never_both
returns-clause-never_both c = front.never_both
