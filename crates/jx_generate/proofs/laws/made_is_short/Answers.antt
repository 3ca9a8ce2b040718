use Rattle.jx_generate.proofs.ShortLemmas.{file_short}
use Rattle.jx_generate.proofs.laws.made_is_short.Goals as goal

pub returns : goal.returns
returns c = file_short
