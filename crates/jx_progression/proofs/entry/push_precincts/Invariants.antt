use Rattle.std.proofs.Common.{◌≡◌, ◌++◌}
use Rattle.jx_base.specs.Joined.{joined}
use Rattle.jx_progression.specs.Steps.{one_precinct_head}
use Rattle.jx_progression.proofs.entry.push_precincts.Given as goal

abbrev pub invariant-loop-precinct : goal.invariant-loop-precinct
invariant-loop-precinct l = l.list.items ≡ l.initial.list.items ++ joined (one_precinct_head l.row l.layer) 0 l.precinct
