use Rattle.std.proofs.Common.{◌≡◌, ◌*◌, ◌≤◌, ◌^◌}
use Rattle.jx_geom.specs.Counts.{resolution_blocks}
use Rattle.jx_geom.proofs.counts.count_all_blocks.Given as goal
use Rattle.jx_base.specs.Joined.{sum_below}

abbrev pub invariant-loop-res : goal.invariant-loop-res
invariant-loop-res l = (l.total ≡ sum_below (resolution_blocks l.tile l.comp) l.res) × (l.total ≤ l.res * 2 ^ 66)
