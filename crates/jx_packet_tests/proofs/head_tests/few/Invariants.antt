use Rattle.std.proofs.Common.{map, drop}
use Rattle.jx_packet_header.specs.Leafs.{leaf_of}
use Rattle.jx_packet_header.specs.Writable.{AllFew}
use Rattle.jx_packet_tests.proofs.head_tests.few.Given as goal

abbrev pub invariant-loop-leaf : goal.invariant-loop-leaf
invariant-loop-leaf l = AllFew (map leaf_of (drop l.leaf-index l.leaves)) → AllFew (map leaf_of l.leaves)
