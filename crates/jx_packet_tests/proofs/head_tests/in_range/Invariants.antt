use Rattle.std.proofs.Common.{◌≤◌, drop}
use Rattle.jx_packet_header.specs.Precinct.{AreBandCells, cells_in}
use Rattle.jx_packet_tests.proofs.head_tests.in_range.Given as goal
use Rattle.jx_base.specs.Limits.{most_blocks}

abbrev pub invariant-loop-cells : goal.invariant-loop-cells
invariant-loop-cells l = (AreBandCells (drop l.cells-index l.bands) → AreBandCells l.bands) × (cells_in (drop l.cells-index l.bands) ≤ l.left → cells_in l.bands ≤ most_blocks)
