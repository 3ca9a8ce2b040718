use Rattle.std.proofs.Common.{arith}
use Rattle.jx_geom.proofs.LeafLemmas.{cells_small}
use Rattle.jx_geom.proofs.tile_geom.TileGeom.leaf_count.Goals as goal

pub overflow_cast-result : goal.overflow_cast-result
overflow_cast-result c =
    let small = cells_small c.args.self.now c.args.comp c.args.res c.args.precinct c.args.band c.requires.range c.requires.precinct c.requires.band in
    rw (c.area.ensures, c.blocks-2.ensures.value) (omega (arith, small))
