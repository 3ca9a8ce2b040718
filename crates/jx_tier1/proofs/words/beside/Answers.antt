use Rattle.jx_tier1.proofs.NearLemmas.{beside_is}
use Rattle.jx_tier1.proofs.words.beside.Goals as goal

pub returns : goal.returns
returns c = λ i. beside_is c.args.window i
