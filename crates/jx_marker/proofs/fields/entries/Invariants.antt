use Rattle.std.proofs.Common.{◌≡◌, ◌+◌, ◌-◌, ◌*◌, ◌≤◌, ◌++◌, length}
use Rattle.jx_marker.specs.Values.{values_from, entry_at}
use Rattle.jx_marker.proofs.fields.entries.Given as goal

abbrev pub invariant-loop-i : goal.invariant-loop-i
invariant-loop-i l = record {
  room : l.at + (l.count - l._i) * l.size ≤ length l.body;
  so_far : l.items.items ++ values_from (entry_at l.size) l.size (l.count - l._i) l.at l.body ≡ values_from (entry_at l.size) l.size l.count l.«from» l.body;
}
