use Rattle.jx_tier2_reader.proofs.ReadyLemmas.{broken_once}
use Rattle.jx_tier2_reader.proofs.laws.one_violation.Goals as goal

pub returns : goal.returns
returns c = broken_once
