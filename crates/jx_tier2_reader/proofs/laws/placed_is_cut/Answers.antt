use Rattle.jx_tier2_reader.proofs.InPlaceLemmas.{placed_stands}
use Rattle.jx_tier2_reader.proofs.laws.placed_is_cut.Goals as goal

pub returns : goal.returns
returns c = λ packed w rest number k d cut none. placed_stands packed w number k d rest cut none
