use Rattle.std.proofs.Common.{map, take, arith}
use Rattle.std.specs.List.{flat_map}
use Rattle.jx_geom.specs.declared.table.Resolution.{Resolution}
use Rattle.jx_tier2_reader.proofs.ListedLemmas.{by_resolution, row_there}
use Rattle.jx_tier2_writer.specs.Names.{resolution_names}
use Rattle.jx_tier2_writer.proofs.SendingsLemmas.{row_next, rows_end}
use Rattle.jx_tier2_writer.proofs.precincts.sendings_of.Goals as goal

none : Resolution
none = record { comp = 0; res = 0; precincts = 0; precincts_before = 0; blocks_before = 0 }

pub push_resolution-requires-clause-res : goal.push_resolution-requires-clause-res
unfolding none
push_resolution-requires-clause-res g c =
    row_there c.args.geom.now c.resolutions-rows.result.now c.loop-row.row-index none c.resolutions-rows.ensures c.loop-row-test.true

pub loop-row-preserved : goal.loop-row-preserved
unfolding none
loop-row-preserved g c =
    row_next c.args.stream.now c.args.geom.now (map g.B.Coded.block c.args.values.now) (map g.B.Coded.bytes c.args.values.now) c.resolutions-rows.result.now c.loop-row.row-index none
    c.push_resolution.new.list.items c.loop-row-test.true
    (c.in_ok-push_resolution.ensures (flat_map (by_resolution (resolution_names c.args.geom.now)) (take c.loop-row.row-index c.resolutions-rows.result.now)) c.loop-row.invariant)

pub returns : goal.returns
returns g c =
    rows_end c.args.stream.now c.args.geom.now (map g.B.Coded.block c.args.values.now) (map g.B.Coded.bytes c.args.values.now) c.resolutions-rows.result.now c.loop-row.row-index
    c.loop-row.list.items (omega arith) c.resolutions-rows.ensures c.loop-row.invariant
