use Rattle.std.proofs.Common.{drop}
use Rattle.jx_progression.specs.Steps.{group_names}
use Rattle.jx_progression.proofs.SpreadLemmas.{Room}
use Rattle.jx_progression.proofs.spread.make_room.Given as goal

abbrev pub invariant-loop-done : goal.invariant-loop-done
invariant-loop-done l = Room (group_names l.geom l.order l.end) (drop l.from l.initial.list.items) l.initial.list.items l.list.items l.done
