use Rattle.std.proofs.Common.{◌≡◌, ◌+◌, ◌-◌, ◌*◌}
use Rattle.std.specs.List.{list_all}
use Rattle.jx_marker.specs.Values.{values_from, comp_size_at}
use Rattle.jx_marker.specs.Rules.{comp_size_fits}
use Rattle.jx_marker.proofs.siz_rules.comp_sizes_fit.Given as goal

abbrev pub invariant-loop-i : goal.invariant-loop-i
invariant-loop-i l = record {
  place : l.at ≡ 36 + 3 * l._i;
  left : list_all comp_size_fits (values_from comp_size_at 3 (l.count - l._i) l.at l.body) ≡ list_all comp_size_fits (values_from comp_size_at 3 l.count 36 l.body);
}
