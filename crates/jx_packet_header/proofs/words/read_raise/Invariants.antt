use Rattle.std.proofs.Common.{◌≡◌, ◌+◌, length}
use Rattle.std.specs.Prelude.{option_map}
use Rattle.jx_tagtree.specs.Header.{to_come}
use Rattle.jx_packet_header.specs.Frame.{frame}
use Rattle.jx_packet_header.specs.Scan.{scan_raise, plus}
use Rattle.jx_packet_header.proofs.words.read_raise.Given as goal

abbrev pub invariant-loop-raise : goal.invariant-loop-raise
invariant-loop-raise l =
    (scan_raise (to_come l.initial.bits) ≡ option_map (plus l.raise) (scan_raise (to_come l.bits)))
    × (l.raise + length (to_come l.bits) ≡ length (to_come l.initial.bits))
    × (frame l.bits ≡ frame l.initial.bits)

abbrev pub decreases-loop-raise : goal.decreases-loop-raise
decreases-loop-raise l = length (to_come l.bits)
