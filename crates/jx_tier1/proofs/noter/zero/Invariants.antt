use Rattle.std.proofs.Common.{◌≡◌, ◌-◌, ◌+◌}
use Rattle.jx_tier1_specs.specs.Pass.{zeroed}
use Rattle.jx_tier1.proofs.noter.zero.Given as goal

abbrev pub invariant-loop-i : goal.invariant-loop-i
invariant-loop-i l = record {
  so_far : zeroed l.plane (l.count - l.i) l.grid l.x (l.y + l.i) ≡ zeroed l.plane l.count l.initial.grid l.x l.y;
}
