use Rattle.std.proofs.Common.{◌≡◌, ◌++◌, drop, Some}
use Rattle.jx_plan.specs.Changes.{volumes_written}
use Rattle.jx_plan.proofs.changes.some_written.Given as goal

abbrev pub invariant-loop-entry : goal.invariant-loop-entry
invariant-loop-entry l = l.list.items ++ volumes_written l.comps (Some (drop l.entry-index l.entries)) ≡ volumes_written l.comps (Some l.entries)
