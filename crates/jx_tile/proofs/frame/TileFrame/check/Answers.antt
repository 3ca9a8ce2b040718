use Rattle.std.proofs.Common.{◌∙◌, ap}
use Rattle.jx_codestream.specs.Shapes.{layers_in}
use Rattle.jx_tile.proofs.CoveredLemmas.{lacks_of, whole_of}
use Rattle.jx_tile.proofs.frame.TileFrame.check.Goals as goal

pub returns-then-whole-clause-whole : goal.returns-then-whole-clause-whole
returns-then-whole-clause-whole c =
    let f = c.args.self.now in
    let layers = c.layers.ensures.value ∙ ap layers_in c.parts.ensures.view in
    whole_of f.stream f.number c.parts.result.2.now c.layers.result c.as_slice.result.now c.tile-tile.result.now c.parts.ensures.geometry layers c.tile-tile.ensures c.as_slice.ensures
    (c.in-Ok.ensures.whole.0 c.if-whole.true)

pub returns-clause-uncovered : goal.returns-clause-uncovered
returns-clause-uncovered c =
    let f = c.args.self.now in
    let layers = c.layers.ensures.value ∙ ap layers_in c.parts.ensures.view in
    rw c.uncovered.ensures (lacks_of f.stream f.number c.parts.result.2.now c.layers.result c.as_slice.result.now c.tile-tile.result.now c.parts.ensures.geometry layers c.tile-tile.ensures c.as_slice.ensures
    (c.in-Ok.ensures.lacks c.if-whole.false))
