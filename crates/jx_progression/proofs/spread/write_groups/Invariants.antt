use Rattle.std.proofs.Common.{◌-◌, drop, take}
use Rattle.jx_progression.specs.Steps.{group_names}
use Rattle.jx_progression.proofs.SpreadLemmas.{Spread}
use Rattle.jx_progression.proofs.spread.write_groups.Given as goal

abbrev pub invariant-loop-done : goal.invariant-loop-done
invariant-loop-done l = Spread (group_names l.geom l.order l.end) (take l.heads (drop l.from l.initial.list)) l.initial.list l.list l.from (l.heads - l.done) l.to
