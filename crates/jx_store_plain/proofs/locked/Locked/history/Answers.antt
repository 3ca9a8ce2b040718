use Rattle.jx_store_plain.proofs.Replays.{remembers}
use Rattle.jx_store_plain.proofs.locked.Locked.history.Goals as goal

pub returns-clause-remembers : goal.returns-clause-remembers
returns-clause-remembers g c = rw (← c.self.view_is) (remembers _ _ _ c.self.invariant.recorded)
