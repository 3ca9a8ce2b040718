use Rattle.jx_jp2.proofs.FindLemmas.{has_end}
use Rattle.jx_jp2.proofs.laws.some_codestream.Goals as goal

pub returns : goal.returns
returns c = has_end
