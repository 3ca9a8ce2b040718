use Rattle.std.proofs.Common.{map}
use Rattle.jx_packet_header.specs.Leafs.{leaf_of}
use Rattle.jx_packet_header.proofs.PlanLemmas.{BandsLoop}
use Rattle.jx_packet_header.proofs.precinct_out.write_bands.Given as goal

abbrev pub invariant-loop-at : goal.invariant-loop-at
invariant-loop-at l = BandsLoop l.layer l.at l.base (map leaf_of l.leaves) l.initial.bands.items l.bands.items l.initial.bits l.bits
