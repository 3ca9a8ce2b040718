use Rattle.std.proofs.Common.{◌≡◌, drop}
use Rattle.jx_plan.specs.Changes.{same_entries}
use Rattle.jx_plan.proofs.own_entries.same_entries.Given as goal

abbrev pub invariant-loop-place : goal.invariant-loop-place
invariant-loop-place l = same_entries l.a l.b ≡ same_entries (drop l.place l.a) (drop l.place l.b)
