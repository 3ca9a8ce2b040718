use Rattle.jx_tier2_reader.proofs.LaidTiles.{laid_cut_up}
use Rattle.jx_tier2_reader.proofs.laws.laid_is_cut_up.Goals as goal

pub returns : goal.returns
returns c = laid_cut_up
