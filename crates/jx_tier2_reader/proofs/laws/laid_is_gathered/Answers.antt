use Rattle.jx_tier2_reader.proofs.LaidTiles.{laid_gathered}
use Rattle.jx_tier2_reader.proofs.laws.laid_is_gathered.Goals as goal

pub returns : goal.returns
returns c = laid_gathered
