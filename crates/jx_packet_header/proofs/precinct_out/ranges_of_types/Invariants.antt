use Rattle.std.proofs.Common.{drop, map}
use Rattle.jx_packet_header.specs.Leafs.{leaf_of}
use Rattle.jx_packet_header.specs.LeavesFit.{AllShort}
use Rattle.jx_packet_header.specs.Writable.{AllBytes}
use Rattle.jx_packet_header.proofs.precinct_out.ranges_of_types.Given as goal

abbrev pub invariant-loop-leaf : goal.invariant-loop-leaf
invariant-loop-leaf l = record {
  short : AllShort (map leaf_of (drop l.leaf-index l.leaves)) → AllShort (map leaf_of l.leaves);
  bytes : AllBytes (map leaf_of (drop l.leaf-index l.leaves)) → AllBytes (map leaf_of l.leaves);
}
