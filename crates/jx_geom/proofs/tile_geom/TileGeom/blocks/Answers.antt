use Rattle.std.proofs.Common.{◌≡◌, arith}
use Rattle.std.proofs.lemmas.Grind.{common_steps}
use Rattle.jx_geom.specs.Geometry.{rect_of_tile, shape_of}
use Rattle.jx_geom.specs.Ranges.{ShapeInRange}
use Rattle.jx_geom.specs.Rects.{precinct_blocks}
use Rattle.jx_geom.proofs.LawLemmas.{precinct_block_places}
use Rattle.jx_geom.proofs.tile_geom.TileGeom.blocks.Goals as goal

pub returns-clause-places : goal.returns-clause-places
returns-clause-places c =
    let e : c.precinct_blocks_of.result ≡ precinct_blocks (rect_of_tile c.args.self.now) (shape_of c.args.self.now c.args.comp) c.args.res c.args.band c.args.precinct = grind (arith, common_steps) in
    let h : ShapeInRange (shape_of c.args.self.now c.args.comp) = rw c.shape.ensures.value at c.shape.ensures.range in
    precinct_block_places (rect_of_tile c.args.self.now) (shape_of c.args.self.now c.args.comp) c.args.res c.args.band c.args.precinct c.precinct_blocks_of.result h e
