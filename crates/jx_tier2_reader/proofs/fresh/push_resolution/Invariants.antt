use Rattle.std.proofs.Common.{◌≡◌, ◌++◌}
use Rattle.jx_tier2_reader.specs.Fresh.{one_precinct}
use Rattle.jx_tier2_reader.proofs.fresh.push_resolution.Given as goal
use Rattle.jx_base.specs.Joined.{joined}

abbrev pub invariant-loop-precinct : goal.invariant-loop-precinct
invariant-loop-precinct l = l.list.items ≡ l.initial.list.items ++ joined (one_precinct l.stream l.geom l.comp l.res) 0 l.precinct
