use Rattle.std.proofs.Common.{ℕ, ◌<◌}
use Rattle.std.specs.List.{Contains}
use Rattle.jx_progression.specs.Steps.{row_at}
use Rattle.jx_progression.proofs.table.filled_places.Given as goal

abbrev pub invariant-loop-place : goal.invariant-loop-place
invariant-loop-place l = (i : ℕ) → i < l.place → 0 < (row_at l.rows i).precincts → Contains l.places.items i
