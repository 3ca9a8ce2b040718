use Rattle.std.proofs.Common.{ap}
use Rattle.jx_marker.specs.declared.CompSize.{CompSize}
use Rattle.jx_geom.specs.declared.shape.CompShape.{CompShape}
use Rattle.jx_codestream.specs.Shapes.{sized}
use Rattle.jx_codestream.proofs.ViewLemmas.{shape_pushed}
use Rattle.jx_codestream.proofs.shapes.sized_shapes.Goals as goal

pub loop-comp-preserved : goal.loop-comp-preserved
loop-comp-preserved c =
    let shape = c.args.shape.now in
    let at : CompSize → CompShape = λ size. record shape { dx = size.dx; dy = size.dy } in
    shape_pushed (sized c.args.siz.now shape) c.loop-comp.shapes.items c.push.new.self.items c.loop-comp.comp (at c.size_of-size.result) c.in_ok-push.ensures.items (ap at c.size_of-size.ensures)
    c.loop-comp.invariant
