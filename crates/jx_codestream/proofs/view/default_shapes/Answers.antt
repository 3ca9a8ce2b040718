use Rattle.std.proofs.Common.{◌∙◌, ap, length, map}
use Rattle.std.specs.List.{range_with_len}
use Rattle.jx_marker.specs.declared.Siz.{Siz}
use Rattle.jx_geom.specs.declared.shape.CompShape.{CompShape}
use Rattle.jx_codestream.specs.Shapes.{sized}
use Rattle.jx_codestream.proofs.PutLemmas.{by_cod, by_main}
use Rattle.jx_codestream.proofs.view.default_shapes.Goals as goal

pub returns-in_default : goal.returns-in_default
returns-in_default c =
    by_main c.args.main.now c.args.own.now.segments.now c.in_ok-from_slice.field-0.items c.in_default.ensures (c.in_ok-from_slice.ensures.items ∙ c.as_slice.ensures ∙ c.shapes.ensures)

pub returns : goal.returns
returns c =
    let siz = c.args.main.now.siz in
    by_cod c.args.main.now c.args.own.now.segments.now c.in-Some.segment.now c.in_ok-shapes.shapes.items c.in-Some.ensures
    (c.in_ok-shapes.ensures ∙ ap (λ (x : Siz). map (sized x c.shape_by.result) (range_with_len 0 (length x.comps))) c.siz.ensures
    ∙ ap (λ (x : CompShape). map (sized siz x) (range_with_len 0 (length siz.comps))) c.shape_by.ensures)
