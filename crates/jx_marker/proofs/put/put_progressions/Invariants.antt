use Rattle.std.proofs.Common.{◌≡◌, ◌++◌, take}
use Rattle.jx_marker.specs.Values.{poc_bytes}
use Rattle.jx_marker.proofs.put.put_progressions.Given as goal

abbrev pub invariant-loop-entry : goal.invariant-loop-entry
invariant-loop-entry l = l.out.items ≡ l.initial.out.items ++ poc_bytes l.comps (take l.entry-index l.entries)
