use Rattle.std.proofs.Common.{◌+◌, ◌<◌, arith}
use Rattle.jx_base.specs.Places.{size_of}
use Rattle.jx_geom.proofs.NumberedLeaves.{corner_of, made_part}
use Rattle.jx_geom.proofs.leaves.part_of.Goals as goal

pub number-requires : goal.number-requires
number-requires c =
    let some : 0 < size_of c.blocks-cells.result = omega (arith, c.if-area-eq0.false, c.area.ensures) in
    corner_of c.args.geom.now c.args.comp c.args.res c.args.precinct c.args.band c.blocks-cells.result c.cells-all.result c.requires.range c.requires.precinct
    c.blocks-cells.ensures.value c.cells-all.ensures.value some

pub returns-clause-each : goal.returns-clause-each
returns-clause-each c =
    let some : 0 < size_of c.blocks-cells.result = omega (arith, c.if-area-eq0.false, c.area.ensures) in
    made_part c.args.geom.now c.args.comp c.args.res c.args.precinct c.args.band c.args.before c.blocks-cells.result c.cells-all.result
    (record { count = c.leaf_count.result; wide = c.len.result; first = c.args.before + c.number.result; stride = c.len-2.result }) c.requires.range c.requires.precinct
    c.blocks-cells.ensures.value c.cells-all.ensures.value some c.len.ensures c.len-2.ensures (omega (arith, c.number.ensures.value))
