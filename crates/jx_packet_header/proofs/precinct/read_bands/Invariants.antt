use Rattle.std.proofs.Common.{◌≡◌, ◌≤◌, ◌+◌, length, take, drop, []}
use Rattle.jx_tagtree.specs.Header.{to_come}
use Rattle.jx_packet_header.specs.Frame.{frame}
use Rattle.jx_packet_header.specs.Kept.{AreBands}
use Rattle.jx_packet_header.specs.Precinct.{all_blocks}
use Rattle.jx_packet_header.specs.Scan.{scan_bands}
use Rattle.jx_packet_header.proofs.BandLoopLemmas.{and_done}
use Rattle.jx_packet_header.proofs.precinct.read_bands.Given as goal
use Rattle.jx_base.specs.Limits.{most_blocks}

abbrev pub invariant-loop-at : goal.invariant-loop-at
invariant-loop-at l = record {
  scanned : and_done l.initial.parts.items [] (scan_bands l.style.bits l.layer 0 l.initial.bands.items (to_come l.initial.bits))
      ≡ and_done l.parts.items (take l.at l.bands.items) (scan_bands l.style.bits l.layer l.base (drop l.at l.bands.items) (to_come l.bits));
  same : frame l.bits ≡ frame l.initial.bits;
  are : AreBands l.bands.items;
  long : length l.bands.items ≡ length l.initial.bands.items;
  blocks : length (all_blocks l.bands.items) ≡ length (all_blocks l.initial.bands.items);
  left : l.base + length (all_blocks (drop l.at l.bands.items)) ≤ most_blocks;
}
