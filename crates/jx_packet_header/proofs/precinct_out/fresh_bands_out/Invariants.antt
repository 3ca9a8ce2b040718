use Rattle.std.proofs.Common.{map}
use Rattle.jx_packet_header.specs.Leafs.{leaf_of}
use Rattle.jx_packet_header.proofs.PlanLemmas.{Making}
use Rattle.jx_packet_header.proofs.precinct_out.fresh_bands_out.Given as goal

abbrev pub invariant-loop-cells : goal.invariant-loop-cells
invariant-loop-cells l = Making l.layers l.cells-index l.base l.bands (map leaf_of l.leaves) l.made.items
