use Rattle.std.proofs.Common.{◌≡◌, ◌-◌, ◌≤◌}
use Rattle.std.specs.Prelude.{option_map}
use Rattle.jx_tagtree.specs.Header.{Took, to_come}
use Rattle.jx_tagtree.specs.Scan.{scan, more_zeros}
use Rattle.jx_tagtree.proofs.reading.read_zeros.Given as goal

-- the zeros so far and those to come are all
abbrev pub invariant-loop-known : goal.invariant-loop-known
invariant-loop-known l = record {
  begun : l.start ≤ l.known;
  took : Took l.fn.bits l.bits;
  same : scan (l.threshold - l.start) (to_come l.fn.bits) ≡ option_map (more_zeros (l.known - l.start)) (scan (l.threshold - l.known) (to_come l.bits));
}

abbrev pub decreases-loop-known : goal.decreases-loop-known
decreases-loop-known l = l.threshold - l.known
