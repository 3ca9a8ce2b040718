use Rattle.jx_progression.proofs.OrderLemmas.{one_order}
use Rattle.jx_progression.proofs.laws.orders_are_one.Goals as goal

pub returns : goal.returns
returns c = λ g layers entries n a b h k. one_order g layers entries n a b h k
