use Rattle.std.proofs.Common.{◌∙◌, ◌≤◌, List, ap, length, subst, sym}
use Rattle.jx_geom.specs.declared.shape.CompShape.{CompShape}
use Rattle.jx_codestream.specs.Shapes.{shapes_in}
use Rattle.jx_tile.proofs.TotalLemmas.{few_shapes}
use Rattle.jx_plan.proofs.fitting.tile_misfit.Goals as goal

pub misfit_in-requires-clause-few : goal.misfit_in-requires-clause-few
misfit_in-requires-clause-few c =
    subst (λ (xs : List CompShape). length xs ≤ 16384) (sym (c.shapes.ensures.value ∙ ap shapes_in c.in_ok-view.ensures)) (few_shapes c.args.stream.now c.args.tile c.requires.range)
