use Rattle.std.proofs.Common.{◌≡◌, ◌*◌, ◌≤◌, ◌^◌}
use Rattle.jx_geom.specs.Counts.{precinct_count}
use Rattle.jx_geom.proofs.counts.count_all_precincts.Given as goal
use Rattle.jx_base.specs.Joined.{sum_below}

abbrev pub invariant-loop-res : goal.invariant-loop-res
invariant-loop-res l = (l.total ≡ sum_below (precinct_count l.tile l.comp) l.res) × (l.total ≤ l.res * 2 ^ 64)
