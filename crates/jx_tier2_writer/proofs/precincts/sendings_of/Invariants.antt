use Rattle.std.proofs.Common.{map, take}
use Rattle.std.specs.List.{flat_map}
use Rattle.jx_tier2_reader.proofs.ListedLemmas.{by_resolution}
use Rattle.jx_tier2_writer.specs.Names.{AreSendings, resolution_names}
use Rattle.jx_tier2_writer.proofs.precincts.sendings_of.Given as goal

abbrev pub invariant-loop-row : goal.invariant-loop-row
invariant-loop-row g l =
    AreSendings l.stream l.geom (map g.B.Coded.block l.values) (map g.B.Coded.bytes l.values) (flat_map (by_resolution (resolution_names l.geom)) (take l.row-index l.rows)) l.list.items
