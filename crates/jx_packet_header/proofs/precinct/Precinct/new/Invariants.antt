use Rattle.std.proofs.Common.{◌≡◌, ◌++◌, drop}
use Rattle.jx_packet_header.specs.Precinct.{fresh_bands}
use Rattle.jx_packet_header.proofs.precinct.Precinct.new.Given as goal

abbrev pub invariant-loop-cells : goal.invariant-loop-cells
invariant-loop-cells l = l.made.items ++ fresh_bands (drop l.cells-index l.bands) ≡ fresh_bands l.bands
