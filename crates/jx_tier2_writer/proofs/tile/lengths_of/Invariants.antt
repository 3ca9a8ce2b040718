use Rattle.std.proofs.Common.{◌≡◌, ◌≤◌, ◌++◌, drop, map}
use Rattle.jx_tier2_writer.specs.Packed.{own_length, total}
use Rattle.jx_tier2_writer.proofs.tile.lengths_of.Given as goal

abbrev pub invariant-loop-name : goal.invariant-loop-name
invariant-loop-name g l =
    (l.sum ≤ l.most)
    × (l.sum ≡ total l.lengths.items)
    × (l.lengths.items ++ map (own_length l.marks l.stream l.geom (map g.B.Coded.block l.values)) (drop l.name-index l.names)
    ≡ map (own_length l.marks l.stream l.geom (map g.B.Coded.block l.values)) l.names)
