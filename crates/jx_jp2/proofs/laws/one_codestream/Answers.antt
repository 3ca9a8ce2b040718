use Rattle.jx_jp2.proofs.FindLemmas.{same_codestream, found_or_fault, same_fault}
use Rattle.jx_jp2.proofs.laws.one_codestream.Goals as goal

pub returns-clause-same : goal.returns-clause-same
returns-clause-same c = same_codestream

pub returns-clause-either : goal.returns-clause-either
returns-clause-either c = found_or_fault

pub returns-clause-fault : goal.returns-clause-fault
returns-clause-fault c = same_fault
