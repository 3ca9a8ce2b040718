use Rattle.std.proofs.Common.{◌≡◌, ◌≤◌, take}
use Rattle.jx_plan.specs.Changes.{coding_end}
use Rattle.jx_plan.proofs.changes.coding_end.Given as goal

abbrev pub invariant-loop-place : goal.invariant-loop-place
invariant-loop-place l = (l.end ≡ coding_end (take l.place l.segments)) × (l.end ≤ l.place)
