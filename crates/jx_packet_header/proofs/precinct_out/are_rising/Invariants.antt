use Rattle.std.proofs.Common.{drop, map}
use Rattle.jx_packet_header.specs.Leafs.{leaf_of}
use Rattle.jx_packet_header.specs.Writable.{AreRising}
use Rattle.jx_packet_header.proofs.precinct_out.are_rising.Given as goal

abbrev pub invariant-loop-leaf : goal.invariant-loop-leaf
invariant-loop-leaf l = AreRising (map leaf_of (drop l.leaf-index l.leaves)) → AreRising (map leaf_of l.leaves)
