use Rattle.std.proofs.Common.{◌∙◌, arith, []}
use Rattle.jx_geom.specs.declared.table.Resolution.{Resolution}
use Rattle.jx_tier2_reader.specs.Blocks.{blocks_of_resolution}
use Rattle.jx_tier2_reader.proofs.ListedLemmas.{blocks_listed, row_there, rows_all, rows_next}
use Rattle.jx_tier2_reader.proofs.fresh.blocks_of.Goals as goal

none : Resolution
none = record { comp = 0; res = 0; precincts = 0; precincts_before = 0; blocks_before = 0 }

pub push_bands-requires-clause-res : goal.push_bands-requires-clause-res
unfolding none
push_bands-requires-clause-res c =
    row_there c.args.geom.now c.resolutions-rows.result.now c.loop-row.row-index none c.resolutions-rows.ensures c.loop-row-test.true

pub loop-row-preserved : goal.loop-row-preserved
unfolding none
loop-row-preserved c =
    rows_next (blocks_of_resolution c.args.stream.now c.args.geom.now []) c.resolutions-rows.result.now c.loop-row.row-index none c.loop-row.list.items c.push_bands.new.list.items
    c.loop-row-test.true c.loop-row.invariant c.in_ok-push_bands.ensures

pub returns : goal.returns
returns c =
    rows_all (blocks_of_resolution c.args.stream.now c.args.geom.now []) c.args.geom.now c.resolutions-rows.result.now c.loop-row.row-index c.loop-row.list.items (omega arith)
    c.resolutions-rows.ensures c.loop-row.invariant ∙ blocks_listed c.args.stream.now c.args.geom.now
