use Rattle.std.proofs.Common.{drop}
use Rattle.jx_codestream.specs.Shapes.{HasShapes}
use Rattle.jx_codestream.specs.TileHeaders.{with_own}
use Rattle.jx_codestream.proofs.view.coded_shapes.Given as goal

abbrev pub invariant-loop-segment : goal.invariant-loop-segment
invariant-loop-segment l = HasShapes (with_own l.main l.own.segments.now) (drop l.segment-index l.own.segments.now) l.shapes.items
