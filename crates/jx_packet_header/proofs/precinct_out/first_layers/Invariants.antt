use Rattle.std.proofs.Common.{◌≡◌, ◌++◌, map, drop}
use Rattle.jx_packet_header.specs.Written.{first_leaves}
use Rattle.jx_packet_header.specs.Leafs.{leaf_of}
use Rattle.jx_packet_header.proofs.precinct_out.first_layers.Given as goal

abbrev pub invariant-loop-leaf : goal.invariant-loop-leaf
invariant-loop-leaf l = l.first.items ++ first_leaves l.layers (map leaf_of (drop l.leaf-index l.leaves)) ≡ first_leaves l.layers (map leaf_of l.leaves)
