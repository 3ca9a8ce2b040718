use Rattle.jx_tier2_reader.proofs.ReadyLemmas.{not_both}
use Rattle.jx_tier2_reader.proofs.laws.never_both.Goals as goal

pub returns : goal.returns
returns c = not_both
