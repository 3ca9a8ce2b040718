use Rattle.std.proofs.Common.{◌≡◌, ◌++◌, map, drop}
use Rattle.jx_packet_header.specs.Written.{zero_leaves}
use Rattle.jx_packet_header.specs.Leafs.{leaf_of}
use Rattle.jx_packet_header.proofs.precinct_out.zero_planes.Given as goal

abbrev pub invariant-loop-leaf : goal.invariant-loop-leaf
invariant-loop-leaf l = l.zeros.items ++ zero_leaves l.planes (map leaf_of (drop l.leaf-index l.leaves)) ≡ zero_leaves l.planes (map leaf_of l.leaves)
