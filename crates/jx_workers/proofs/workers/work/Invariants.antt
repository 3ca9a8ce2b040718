use Rattle.jx_workers.specs.Stops.{IsPast}
use Rattle.jx_workers.specs.Workers.{IsFree}
use Rattle.jx_workers.proofs.workers.work.Given as goal

abbrev pub invariant-loop : goal.invariant-loop
invariant-loop g l = (goal.iterator-loop g).can_next l.iterator' × (goal.iterator-loop g).is_finite l.iterator' × IsFree g.N.Bounds.setup l.initial.pass.table g.N.Bounds.workers l.pass × IsPast l.pass.claims l.past
