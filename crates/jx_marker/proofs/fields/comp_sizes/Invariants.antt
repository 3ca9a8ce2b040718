use Rattle.std.proofs.Common.{◌≡◌, ◌+◌, ◌-◌, ◌*◌, ◌++◌}
use Rattle.jx_marker.specs.Values.{values_from, comp_size_at}
use Rattle.jx_marker.proofs.fields.comp_sizes.Given as goal

abbrev pub invariant-loop-i : goal.invariant-loop-i
invariant-loop-i l = record {
  place : l.at ≡ 36 + 3 * l._i;
  so_far : l.items.items ++ values_from comp_size_at 3 (l.count - l._i) l.at l.body ≡ values_from comp_size_at 3 l.count 36 l.body;
}
