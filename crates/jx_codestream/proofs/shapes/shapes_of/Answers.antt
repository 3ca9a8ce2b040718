use Rattle.std.proofs.Common.{◌∙◌, ap, sym, arith, ℕ, map}
use Rattle.std.specs.List.{range_with_len}
use Rattle.jx_codestream.specs.TileHeaders.{TileHeaders}
use Rattle.jx_codestream.specs.Shapes.{comp_shape}
use Rattle.jx_codestream.proofs.ViewLemmas.{shape_pushed, shapes_made}
use Rattle.jx_codestream.proofs.shapes.shapes_of.Goals as goal

pub loop-comp-preserved : goal.loop-comp-preserved
loop-comp-preserved c =
    let h : TileHeaders = record { siz = c.args.siz.now; main = c.args.main.now.segments.now; own = c.args.own.now.segments.now } in
    shape_pushed (comp_shape h) c.loop-comp.shapes.items c.push.new.self.items c.loop-comp.comp c.comp_shape.result c.in_ok-push.ensures.items c.comp_shape.ensures c.loop-comp.invariant

pub returns : goal.returns
returns c =
    let h : TileHeaders = record { siz = c.args.siz.now; main = c.args.main.now.segments.now; own = c.args.own.now.segments.now } in
    c.loop-comp.invariant ∙ ap (λ (n : ℕ). map (comp_shape h) (range_with_len 0 n)) (omega arith) ∙ sym (shapes_made h)
