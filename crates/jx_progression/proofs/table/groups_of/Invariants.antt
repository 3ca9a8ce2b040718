use Rattle.std.proofs.Common.{◌≡◌, ℕ, ◌<◌, length, slice_index}
use Rattle.std.specs.Prelude.{slice_index_or}
use Rattle.std.specs.List.{All}
use Rattle.jx_progression.specs.Groups.{IsWithin, group_at, no_bounds}
use Rattle.jx_progression.specs.Steps.{row_at}
use Rattle.jx_progression.proofs.table.groups_of.Given as goal

abbrev pub invariant-loop-group : goal.invariant-loop-group
invariant-loop-group l = record {
  bounds : (k : ℕ) → k < length l.groups.items
      → All (λ i. IsWithin (slice_index_or l.groups.items k no_bounds) (row_at l.rows i) (slice_index l.sent i)) (group_at l.places k);
  count : length l.groups.items ≡ l.group;
}
