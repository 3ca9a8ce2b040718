use Rattle.std.proofs.Common.{◌≡◌, ◌++◌, drop}
use Rattle.std.specs.List.{flat_map}
use Rattle.jx_tier2_writer.specs.Index.{entry_bytes}
use Rattle.jx_tier2_writer.proofs.index.put_entries.Given as goal

abbrev pub invariant-loop-entry : goal.invariant-loop-entry
invariant-loop-entry l = l.out.items ++ flat_map entry_bytes (drop l.entry-index l.entries) ≡ l.initial.out.items ++ flat_map entry_bytes l.entries
