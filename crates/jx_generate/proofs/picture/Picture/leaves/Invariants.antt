use Rattle.std.proofs.Common.{◌≡◌, map}
use Rattle.std.specs.List.{range_with_len}
use Rattle.jx_packet_header.specs.Leafs.{leaf_of}
use Rattle.jx_generate.specs.Made.{leaf_made}
use Rattle.jx_generate.proofs.picture.Picture.leaves.Given as goal

abbrev pub invariant-loop-leaf : goal.invariant-loop-leaf
invariant-loop-leaf l = map leaf_of l.made.items ≡ map (leaf_made l.self.seed l.self.width l.self.height l.comp l.res) (range_with_len 0 l.leaf)
