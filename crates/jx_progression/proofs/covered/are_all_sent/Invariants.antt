use Rattle.std.proofs.Common.{ℕ, ◌<◌, ◌≤◌, slice_index}
use Rattle.jx_progression.specs.Steps.{row_at}
use Rattle.jx_progression.proofs.covered.are_all_sent.Given as goal

abbrev pub invariant-loop-place : goal.invariant-loop-place
invariant-loop-place l = (i : ℕ) → i < l.place → 0 < (row_at l.rows i).precincts → l.layers ≤ slice_index l.sent i
