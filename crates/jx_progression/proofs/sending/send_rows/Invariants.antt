use Rattle.std.proofs.Common.{ℕ, ◌<◌, slice_index}
use Rattle.jx_progression.specs.Groups.{IsSent, SendsSome}
use Rattle.jx_progression.specs.Steps.{HasPlaces}
use Rattle.jx_progression.proofs.sending.send_rows.Given as goal

abbrev pub invariant-loop-place : goal.invariant-loop-place
invariant-loop-place l = record {
  some : SendsSome l.geom l.layers l.entry l.initial.sent l.sent l.initial.list.items l.list.items;
  places : HasPlaces l.geom l.sent;
  sent : (j : ℕ) → j < l.place-index → IsSent l.geom l.layers l.entry l.sent (slice_index l.places j);
}
