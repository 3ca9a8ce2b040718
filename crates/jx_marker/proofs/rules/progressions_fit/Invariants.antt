use Rattle.std.proofs.Common.{◌≡◌, ◌+◌, ◌-◌, ◌*◌, ◌≤◌, length}
use Rattle.std.specs.List.{list_all}
use Rattle.jx_marker.specs.Values.{values_from, progression_at}
use Rattle.jx_marker.specs.Rules.{progression_fits}
use Rattle.jx_marker.proofs.rules.progressions_fit.Given as goal

abbrev pub invariant-loop-i : goal.invariant-loop-i
invariant-loop-i l = record {
  room : l.at + (l.count - l._i) * l.size ≤ length l.body;
  left : list_all progression_fits (values_from (progression_at l.comps) l.size (l.count - l._i) l.at l.body) ≡ list_all progression_fits (values_from (progression_at l.comps) l.size l.count 0 l.body);
}
