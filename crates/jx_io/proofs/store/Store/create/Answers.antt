use Rattle.std.proofs.Common.{rules}
use Rattle.jx_io.proofs.store.Store.create.Goals as goal

pub returns-clause-ok : goal.returns-clause-ok
returns-clause-ok c = rw (← c.in_ok-settle.ensures.same, c.in_ok-settle.ensures.settled) (search rules)
