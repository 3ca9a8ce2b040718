use Rattle.std.proofs.Common.{◌<◌, arith}
use Rattle.jx_geom.specs.Geometry.{rect_of_tile, shape_of}
use Rattle.jx_geom.proofs.RectLemmas.{precinct_column_latest, precinct_row_latest, precinct_column_inside, precinct_row_inside}
use Rattle.jx_geom.proofs.TileLemmas.{tile_some, tile_from}
use Rattle.jx_geom.proofs.laws.reference_points_are_latest.Goals as goal

pub returns-clause-across : goal.returns-clause-across
returns-clause-across c = λ tile s r k h lt. precinct_column_latest tile s r k h lt

pub returns-clause-down : goal.returns-clause-down
returns-clause-down c = λ tile s r k h lt. precinct_row_latest tile s r k h lt

pub returns-clause-inside : goal.returns-clause-inside
returns-clause-inside _ = λ g c r k range there.
    let h = range.shapes c there.resolution.component in
    let some = tile_some g.canvas g.tile range.canvas range.tile in
    let first = tile_from g.canvas g.tile some.0 some.1 range.canvas some.2 in
    let wide : (rect_of_tile g).x.low < (rect_of_tile g).x.high = omega (arith, first.across.from, first.across.below) in
    let high : (rect_of_tile g).y.low < (rect_of_tile g).y.high = omega (arith, first.down.from, first.down.below) in
    record {
      across = precinct_column_inside (rect_of_tile g) (shape_of g c) r k h there.precinct wide;
      down = precinct_row_inside (rect_of_tile g) (shape_of g c) r k h there.precinct high;
    }
