use Rattle.std.proofs.Common.{Some}
use Rattle.jx_options.proofs.OrderWords.{order_back}
use Rattle.jx_options.proofs.laws.orders_are_named.Goals as goal

pub returns : goal.returns
returns c = λ order few. order_back (Some order) few
