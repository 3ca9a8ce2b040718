use Rattle.std.proofs.Common.{◌≡◌, map}
use Rattle.std.specs.List.{range_with_len}
use Rattle.jx_packet_header.specs.Leafs.{leaf_of}
use Rattle.jx_tier2_writer.specs.Own.{own_leaf}
use Rattle.jx_tier2_writer.proofs.leaf.leaves_of.Given as goal

abbrev pub invariant-loop-leaf : goal.invariant-loop-leaf
invariant-loop-leaf g l = map leaf_of l.made.items ≡ map (own_leaf l.geom (map g.B.Coded.block l.values) l.comp l.res l.precinct) (range_with_len 0 l.leaf)
