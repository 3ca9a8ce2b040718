use Rattle.std.proofs.Common.{◌≡◌, ◌+◌, ◌-◌, ◌*◌, ◌≤◌, ◌++◌, length}
use Rattle.jx_marker.specs.Values.{values_from, progression_at}
use Rattle.jx_marker.proofs.fields.read_poc.Given as goal

abbrev pub invariant-loop-i : goal.invariant-loop-i
invariant-loop-i l = record {
  room : l.at + (l._i-end - l._i) * l.size ≤ length l.body;
  so_far : l.items.items ++ values_from (progression_at l.comps) l.size (l._i-end - l._i) l.at l.body ≡ values_from (progression_at l.comps) l.size l._i-end 0 l.body;
}
