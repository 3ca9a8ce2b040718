use Rattle.jx_codestream.proofs.UniqueLemmas.{only_one}
use Rattle.jx_codestream.proofs.laws.one_stream.Goals as goal

pub returns : goal.returns
returns c = only_one
