use Rattle.jx_tagtree.proofs.LawLemmas.{read_back}
use Rattle.jx_tagtree.proofs.laws.header_read_back.Goals as goal

pub returns : goal.returns
returns c = λ bits rest. read_back bits rest
