use Rattle.jx_ring.proofs.Shown.{once_each}
use Rattle.jx_ring.proofs.laws.claims_stand_once.Goals as goal

pub returns : goal.returns
returns g c = once_each _ _ _
