use Rattle.std.proofs.Common.{◌-◌, ◌<◌, arith, length}
use Rattle.std.proofs.lemmas.Grind.{common_steps}
use Rattle.jx_geom.specs.declared.table.Resolution.{Resolution}
use Rattle.jx_tier2_reader.proofs.ListedLemmas.{row_there}
use Rattle.jx_tier2_reader.proofs.fresh.room_of.Goals as goal

none : Resolution
none = record { comp = 0; res = 0; precincts = 0; precincts_before = 0; blocks_before = 0 }

pub blocks_up_to-requires : goal.blocks_up_to-requires
unfolding none
blocks_up_to-requires c =
    let some : length c.args.rows.now - 1 < length c.args.rows.now = grind (arith, common_steps) in
    row_there c.args.geom.now c.args.rows.now (length c.args.rows.now - 1) none c.requires some
