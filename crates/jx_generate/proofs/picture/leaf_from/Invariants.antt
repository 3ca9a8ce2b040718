use Rattle.std.proofs.Common.{◌≡◌, ◌++◌, drop, map}
use Rattle.jx_tier2_reader.specs.Planned.{leaf_part_of}
use Rattle.jx_generate.specs.Values.{drawn_piece}
use Rattle.jx_generate.proofs.picture.leaf_from.Given as goal

abbrev pub invariant-loop-piece : goal.invariant-loop-piece
invariant-loop-piece l = l.parts.items ++ map (leaf_part_of l.leaf) (map drawn_piece (drop l.piece-index l.piece-items)) ≡ map (leaf_part_of l.leaf) (map drawn_piece l.piece-items)
