use Rattle.jx_codestream.proofs.UniqueLemmas.{is_read}
use Rattle.jx_codestream.proofs.laws.spelling_is_read.Goals as goal

pub returns-clause-stream : goal.returns-clause-stream
returns-clause-stream c = λ b stream spells. (is_read b stream spells).stream

pub returns-clause-fault : goal.returns-clause-fault
returns-clause-fault c = λ b stream spells. (is_read b stream spells).first
