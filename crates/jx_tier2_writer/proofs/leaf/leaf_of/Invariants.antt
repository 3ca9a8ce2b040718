use Rattle.std.proofs.Common.{◌≡◌, ◌++◌, map, drop}
use Rattle.jx_tier2_writer.specs.Leaves.{leaf_part_from}
use Rattle.jx_tier2_writer.proofs.leaf.leaf_of.Given as goal

abbrev pub invariant-loop-part : goal.invariant-loop-part
invariant-loop-part g l = l.parts.items ++ map (leaf_part_from l.leaf) (drop l.part-index l.list) ≡ map (leaf_part_from l.leaf) l.list
