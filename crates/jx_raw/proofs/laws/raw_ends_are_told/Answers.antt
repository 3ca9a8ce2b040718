use Rattle.jx_raw.proofs.Told.{told}
use Rattle.jx_raw.proofs.laws.raw_ends_are_told.Goals as goal

pub returns : goal.returns
returns c = told
