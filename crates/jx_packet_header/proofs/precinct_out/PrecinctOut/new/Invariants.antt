use Rattle.std.proofs.Common.{map}
use Rattle.jx_packet_header.specs.Leafs.{leaf_of}
use Rattle.jx_packet_header.proofs.PlanLemmas.{LayersLoop}
use Rattle.jx_packet_header.proofs.precinct_out.PrecinctOut.new.Given as goal

abbrev pub invariant-loop-layer : goal.invariant-loop-layer
invariant-loop-layer l = LayersLoop l.layers l.style.bits l.layer l.bands (map leaf_of l.leaves.items) l.made.items l.headers.items l.places.items
