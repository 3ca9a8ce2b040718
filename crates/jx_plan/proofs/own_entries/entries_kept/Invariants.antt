use Rattle.std.proofs.Common.{◌≡◌, ◌++◌, drop, map}
use Rattle.jx_plan.specs.Changes.{entry_kept}
use Rattle.jx_plan.proofs.own_entries.entries_kept.Given as goal

abbrev pub invariant-loop-entry : goal.invariant-loop-entry
invariant-loop-entry l = l.list.items ++ map entry_kept (drop l.entry-index l.entries) ≡ map entry_kept l.entries
