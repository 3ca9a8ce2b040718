use Rattle.std.proofs.Common.{◌≡◌, ◌-◌}
use Rattle.jx_tagtree.specs.Header.{to_come}
use Rattle.jx_packet_header.specs.Frame.{frame}
use Rattle.jx_packet_header.specs.Kept.{IsLeafOf}
use Rattle.jx_packet_header.specs.Scan.{scan_more_zeros}
use Rattle.jx_packet_header.proofs.query.count_zeros.Given as goal

abbrev pub invariant-loop-zeros : goal.invariant-loop-zeros
invariant-loop-zeros l =
    (scan_more_zeros l.initial.tree l.leaf 0 l.planes (to_come l.initial.bits) ≡ scan_more_zeros l.tree l.leaf l.zeros (l.planes - l.zeros) (to_come l.bits))
    × (frame l.bits ≡ frame l.initial.bits)
    × IsLeafOf l.tree l.leaf
