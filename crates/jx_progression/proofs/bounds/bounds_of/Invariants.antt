use Rattle.std.proofs.Common.{ℕ, ◌<◌, slice_index}
use Rattle.jx_progression.specs.Groups.{IsWithin}
use Rattle.jx_progression.specs.Steps.{row_at}
use Rattle.jx_progression.proofs.bounds.bounds_of.Given as goal

abbrev pub invariant-loop-place : goal.invariant-loop-place
invariant-loop-place l = (j : ℕ) → j < l.place-index → IsWithin l.bounds (row_at l.rows (slice_index l.places j)) (slice_index l.sent (slice_index l.places j))
