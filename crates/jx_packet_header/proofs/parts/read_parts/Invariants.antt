use Rattle.std.proofs.Common.{◌≡◌, ◌+◌}
use Rattle.std.specs.Prelude.{option_map}
use Rattle.jx_tagtree.specs.Header.{to_come}
use Rattle.jx_packet_header.specs.Frame.{frame}
use Rattle.jx_packet_header.specs.Parts.{cut}
use Rattle.jx_packet_header.specs.Scan.{scan_parts, behind}
use Rattle.jx_packet_header.proofs.parts.read_parts.Given as goal

abbrev pub invariant-loop-left : goal.invariant-loop-left
invariant-loop-left l =
    (option_map (behind l.initial.parts.items) (scan_parts l.lblock l.block l.first (cut l.style.bits l.first l.count) (to_come l.initial.bits))
    ≡ option_map (behind l.parts.items) (scan_parts l.lblock l.block l.at (cut l.style.bits l.at l.left) (to_come l.bits)))
    × (frame l.bits ≡ frame l.initial.bits)
    × (l.at + l.left ≡ l.first + l.count)

abbrev pub decreases-loop-left : goal.decreases-loop-left
decreases-loop-left l = l.left
