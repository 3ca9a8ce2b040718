use Rattle.std.proofs.Common.{◌≡◌, ◌-◌}
use Rattle.jx_tagtree.specs.Header.{to_come}
use Rattle.jx_packet_header.specs.Frame.{frame}
use Rattle.jx_packet_header.proofs.RowLemmas.{IsRows}
use Rattle.jx_packet_header.proofs.band.read_band.Given as goal

abbrev pub invariant-loop-down : goal.invariant-loop-down
invariant-loop-down l =
    IsRows l.style.bits l.layer l.base l.initial.parts.items l.initial.band (to_come l.initial.bits) l.down l.band l.parts.items (to_come l.bits)
    × (frame l.bits ≡ frame l.initial.bits)

abbrev pub decreases-loop-down : goal.decreases-loop-down
decreases-loop-down l = l.high - l.down
