use Rattle.jx_tier2_reader.proofs.EitherLemmas.{OrdersExist}
use Rattle.jx_tier2_reader.proofs.EitherLemmas as lemmas
use Rattle.jx_tier2_reader.proofs.laws.one_of_both.Goals as goal

pub returns : goal.returns
returns c =
    let orders : OrdersExist = record { exist = c.orders_exist.ensures } in
    lemmas.one_of_both orders
