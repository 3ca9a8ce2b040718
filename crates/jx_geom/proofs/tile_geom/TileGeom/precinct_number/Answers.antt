use Rattle.std.proofs.Common.{◌≡◌, ◌+◌, ◌∙◌, ap, arith}
use Rattle.jx_geom.specs.declared.table.Resolution.{Resolution}
use Rattle.jx_geom.specs.Geometry.{rect_of_tile, shape_of}
use Rattle.jx_geom.specs.Precincts.{precinct_number}
use Rattle.jx_geom.proofs.EmptyLemmas.{some_precinct}
use Rattle.jx_geom.proofs.PrecinctLemmas.{precinct_below}
use Rattle.jx_geom.proofs.TableLemmas.{at_precincts}
use Rattle.jx_geom.proofs.tile_geom.TileGeom.precinct_number.Goals as goal

pub resolution-requires-clause-some : goal.resolution-requires-clause-some
resolution-requires-clause-some c = some_precinct (rect_of_tile c.args.self.now) (shape_of c.args.self.now c.args.comp) c.args.res c.args.precinct c.requires.precinct

pub overflow_add-result : goal.overflow_add-result
overflow_add-result c =
    let e : c.resolution.result.precincts_before + c.args.precinct ≡ precinct_number c.args.self.now c.args.comp c.args.res c.args.precinct =
    ap (λ (r : Resolution). r.precincts_before + c.args.precinct) c.resolution.ensures.value ∙ at_precincts c.args.self.now c.args.comp c.args.res c.args.precinct in
    omega (arith, precinct_below c.args.self.now c.args.comp c.args.res c.args.precinct c.requires, c.resolution.ensures.range.limits.precincts)

pub returns-clause-value : goal.returns-clause-value
returns-clause-value c =
    ap (λ (r : Resolution). r.precincts_before + c.args.precinct) c.resolution.ensures.value ∙ at_precincts c.args.self.now c.args.comp c.args.res c.args.precinct

pub returns-clause-below : goal.returns-clause-below
returns-clause-below c =
    let e : c.resolution.result.precincts_before + c.args.precinct ≡ precinct_number c.args.self.now c.args.comp c.args.res c.args.precinct =
    ap (λ (r : Resolution). r.precincts_before + c.args.precinct) c.resolution.ensures.value ∙ at_precincts c.args.self.now c.args.comp c.args.res c.args.precinct in
    rw e (precinct_below c.args.self.now c.args.comp c.args.res c.args.precinct c.requires)
