use Rattle.jx_tier1.proofs.NearLemmas.{near_is}
use Rattle.jx_tier1.proofs.words.near.Goals as goal

pub returns : goal.returns
returns c = λ i. near_is c.args.window i
