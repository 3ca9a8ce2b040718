use Rattle.std.proofs.Common.{◌≡◌, ◌≤◌, ◌++◌}
use Rattle.jx_tagtree.specs.Header.{low_bits}
use Rattle.jx_packet_header.proofs.put.put_number.Given as goal

abbrev pub invariant-loop-place : goal.invariant-loop-place
invariant-loop-place l = (l.bits ++ low_bits l.place l.value ≡ l.initial.bits ++ low_bits l.width l.value) × (l.place ≤ l.width)

abbrev pub decreases-loop-place : goal.decreases-loop-place
decreases-loop-place l = l.place
