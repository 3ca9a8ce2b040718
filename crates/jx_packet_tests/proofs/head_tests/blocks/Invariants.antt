use Rattle.std.proofs.Common.{◌≡◌, ◌+◌, drop}
use Rattle.jx_packet_header.specs.Precinct.{cells_in}
use Rattle.jx_packet_tests.proofs.head_tests.blocks.Given as goal

abbrev pub invariant-loop-cells : goal.invariant-loop-cells
invariant-loop-cells l = l.count + cells_in (drop l.cells-index l.bands) ≡ cells_in l.bands
