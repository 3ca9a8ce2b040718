use Rattle.std.proofs.Common.{◌≡◌, ◌-◌}
use Rattle.jx_tagtree.specs.Header.{to_come}
use Rattle.jx_packet_header.specs.Frame.{frame}
use Rattle.jx_packet_header.proofs.RowLemmas.{IsRow}
use Rattle.jx_packet_header.proofs.band.read_row.Given as goal

abbrev pub invariant-loop-across : goal.invariant-loop-across
invariant-loop-across l =
    IsRow l.style.bits l.layer l.base l.down l.wide l.initial.parts.items l.initial.band (to_come l.initial.bits) l.across l.next l.band l.parts.items (to_come l.bits)
    × (frame l.bits ≡ frame l.initial.bits)

abbrev pub decreases-loop-across : goal.decreases-loop-across
decreases-loop-across l = l.wide - l.across
