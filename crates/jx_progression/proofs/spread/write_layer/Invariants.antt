use Rattle.std.proofs.Common.{◌≡◌, ◌++◌, ◌+◌, take, drop}
use Rattle.jx_base.specs.Joined.{joined}
use Rattle.jx_progression.specs.Steps.{one_precinct}
use Rattle.jx_progression.proofs.spread.write_layer.Given as goal

abbrev pub invariant-loop-precinct : goal.invariant-loop-precinct
invariant-loop-precinct l =
    l.list ≡ take l.at l.initial.list ++ joined (one_precinct l.head) 0 l.precinct ++ drop (l.at + l.precinct) l.initial.list
