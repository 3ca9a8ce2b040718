use Rattle.jx_tier2_reader.proofs.ReadyLemmas.{one_gathering}
use Rattle.jx_tier2_reader.proofs.laws.one_gathering.Goals as goal

pub returns : goal.returns
returns c = one_gathering
