use Rattle.std.proofs.Common.{ℕ, ◌<◌}
use Rattle.std.specs.List.{All}
use Rattle.jx_progression.specs.Groups.{AreBounds, IsSent, SendsSome, group_at}
use Rattle.jx_progression.specs.Steps.{HasPlaces}
use Rattle.jx_progression.proofs.sending.send_groups.Given as goal

abbrev pub invariant-loop-group : goal.invariant-loop-group
invariant-loop-group l = record {
  some : SendsSome l.geom l.layers l.entry l.initial.sent l.sent l.initial.list.items l.list.items;
  places : HasPlaces l.geom l.sent;
  bounds : AreBounds l.geom l.places l.groups l.sent;
  sent : (k : ℕ) → k < l.group → All (IsSent l.geom l.layers l.entry l.sent) (group_at l.places k);
}
