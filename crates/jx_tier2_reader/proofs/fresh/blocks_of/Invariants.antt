use Rattle.std.proofs.Common.{◌≡◌, take, []}
use Rattle.std.specs.List.{flat_map}
use Rattle.jx_tier2_reader.specs.Blocks.{blocks_of_resolution}
use Rattle.jx_tier2_reader.proofs.ListedLemmas.{by_resolution}
use Rattle.jx_tier2_reader.proofs.fresh.blocks_of.Given as goal

abbrev pub invariant-loop-row : goal.invariant-loop-row
invariant-loop-row l = l.list.items ≡ flat_map (by_resolution (blocks_of_resolution l.stream l.geom [])) (take l.row-index l.rows)
