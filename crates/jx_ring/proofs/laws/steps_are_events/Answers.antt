use Rattle.jx_ring.proofs.Shown.{claim_is, commit_is, drain_is}
use Rattle.jx_ring.proofs.laws.steps_are_events.Goals as goal

pub returns : goal.returns
returns g c = record { claim = claim_is _ _ _; commit = commit_is _ _ _; drain = drain_is _ _ _ }
