use Rattle.jx_store.proofs.Runs.{always_in_order}
use Rattle.jx_store.proofs.laws.events_keep_order.Goals as goal

pub returns : goal.returns
returns g c = always_in_order _
