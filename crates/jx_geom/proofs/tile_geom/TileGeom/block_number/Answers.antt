use Rattle.std.proofs.Common.{ap, arith}
use Rattle.jx_geom.specs.declared.table.Resolution.{Resolution}
use Rattle.jx_geom.specs.Geometry.{rect_of_tile, shape_of}
use Rattle.jx_geom.proofs.EmptyLemmas.{some_block}
use Rattle.jx_geom.proofs.NumberLemmas.{number_in_tile_below}
use Rattle.jx_geom.proofs.TableLemmas.{at_blocks}
use Rattle.jx_geom.proofs.tile_geom.TileGeom.block_number.Goals as goal

pub resolution-before-requires-clause-some : goal.resolution-before-requires-clause-some
resolution-before-requires-clause-some c =
    some_block (rect_of_tile c.args.self.now) (shape_of c.args.self.now c.args.name.now.comp) c.args.name.now.res c.args.name.now.band c.args.name.now.index c.requires.index

whole : goal.returns-clause-value
whole c =
    let e = ap (λ (r : Resolution). r.blocks_before) c.resolution-before.ensures.value in
    omega (arith, e, c.before_band.ensures.value, at_blocks c.args.self.now c.args.name.now)

pub overflow_add-result : goal.overflow_add-result
overflow_add-result c =
    let e = ap (λ (r : Resolution). r.blocks_before) c.resolution-before.ensures.value in
    omega (
      arith,
      e,
      c.before_band.ensures.value,
      at_blocks c.args.self.now c.args.name.now,
      number_in_tile_below c.args.self.now c.args.name.now c.requires,
      c.resolution-before.ensures.range.limits.blocks,
    )

pub overflow_add-result-2 : goal.overflow_add-result-2
overflow_add-result-2 c =
    let e = ap (λ (r : Resolution). r.blocks_before) c.resolution-before.ensures.value in
    omega (
      arith,
      e,
      c.before_band.ensures.value,
      at_blocks c.args.self.now c.args.name.now,
      number_in_tile_below c.args.self.now c.args.name.now c.requires,
      c.resolution-before.ensures.range.limits.blocks,
    )

pub returns-clause-value : goal.returns-clause-value
returns-clause-value c = whole c

pub returns-clause-below : goal.returns-clause-below
returns-clause-below c = rw (whole c) (number_in_tile_below c.args.self.now c.args.name.now c.requires)
