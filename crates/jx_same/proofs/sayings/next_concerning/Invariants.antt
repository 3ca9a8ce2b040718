use Rattle.std.proofs.Common.{◌≡◌, drop}
use Rattle.jx_same.specs.Sayings.{sayings}
use Rattle.jx_same.proofs.sayings.next_concerning.Given as goal

abbrev pub invariant-loop-at : goal.invariant-loop-at
invariant-loop-at l = sayings l.all (drop l.from l.header) ≡ sayings l.all (drop l.at l.header)
