use Rattle.std.proofs.Common.{List, ◌++◌, map}
use Rattle.jx_base.specs.Joined.{joined}
use Rattle.jx_progression.specs.declared.names.PacketName.{PacketName}
use Rattle.jx_tier2_writer.specs.Names.{AreSendings, one_name}
use Rattle.jx_tier2_writer.proofs.precincts.push_resolution.Given as goal

abbrev pub invariant-loop-precinct : goal.invariant-loop-precinct
invariant-loop-precinct g l =
    (names : List PacketName) → AreSendings l.stream l.geom (map g.B.Coded.block l.values) (map g.B.Coded.bytes l.values) names l.initial.list.items
    → AreSendings l.stream l.geom (map g.B.Coded.block l.values) (map g.B.Coded.bytes l.values) (names ++ joined (one_name l.comp l.res) 0 l.precinct) l.list.items
