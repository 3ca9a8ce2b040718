use Rattle.jx_progression.proofs.ExistLemmas.{orders_exist}
use Rattle.jx_progression.proofs.laws.orders_exist.Goals as goal

pub returns : goal.returns
returns c = λ g layers entries n range. orders_exist g layers entries n range
