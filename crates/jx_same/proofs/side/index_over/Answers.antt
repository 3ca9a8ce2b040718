use Rattle.std.proofs.Common.{◌≡◌, ◌∙◌, ◌/◌, ◌^◌, ℕ, ap, sym, subst, refl}
use Rattle.jx_base.specs.Places.{InRect, number_at}
use Rattle.jx_geom.specs.declared.shape.CompShape.{CompShape}
use Rattle.jx_geom.specs.Geometry.{rect_of_tile, shape_of}
use Rattle.jx_geom.specs.Rects.{block_across, block_down}
use Rattle.jx_same.specs.Items.{rect_in}
use Rattle.jx_same.proofs.PlaceLemmas.{cell_there, index_over, over_has}
use Rattle.jx_same.proofs.side.index_over.Goals as goal

pub number-requires : goal.number-requires
number-requires c =
    let g = c.args.geom.now in
    let n = c.args.name in
    let across = c.block_exponents-across.ensures.across ∙ ap (λ (s : CompShape). block_across s n.res) c.shape_at.ensures.value in
    let down = c.block_exponents-across.ensures.down ∙ ap (λ (s : CompShape). block_down s n.res) c.shape_at.ensures.value in
    rw (c.cells-cells.ensures.value, across, down) (cell_there (rect_of_tile g) (shape_of g n.comp) n.res n.band c.args.x c.args.y c.requires.place)

pub returns-clause-has : goal.returns-clause-has
returns-clause-has c =
    let g = c.args.geom.now in
    let n = c.args.name in
    let across = c.block_exponents-across.ensures.across ∙ ap (λ (s : CompShape). block_across s n.res) c.shape_at.ensures.value in
    let down = c.block_exponents-across.ensures.down ∙ ap (λ (s : CompShape). block_down s n.res) c.shape_at.ensures.value in
    let at : number_at c.cells-cells.result (c.args.x / 2 ^ c.block_exponents-across.result.0) (c.args.y / 2 ^ c.block_exponents-across.result.1)
    ≡ index_over (rect_of_tile g) (shape_of g n.comp) n.res n.band c.args.x c.args.y = rw (c.cells-cells.ensures.value, across, down) refl in
    subst (λ (i : ℕ). InRect (rect_in g n.comp n.res n.band i) c.args.x c.args.y) (sym (c.number.ensures.value ∙ at))
    (over_has (rect_of_tile g) (shape_of g n.comp) n.res n.band c.args.x c.args.y c.requires.place)
