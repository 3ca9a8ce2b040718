use Rattle.std.proofs.Common.{◌+◌, drop}
use Rattle.jx_codestream.specs.TileHeaders.{TileHeaders, with_own}
use Rattle.jx_codestream.proofs.PutLemmas.{left_on, none_left}
use Rattle.jx_codestream.proofs.view.coded_shapes.Goals as goal

pub loop-segment-preserved : goal.loop-segment-preserved
loop-segment-preserved c =
    let h : TileHeaders = with_own c.args.main.now c.args.own.now.segments.now in
    let segments = c.args.own.now.segments.now in
    let i = c.loop-segment.segment-index in
    c.put_named.ensures (drop (i + 1) segments) (left_on h segments i c.segment-item.result c.loop-segment.shapes.items c.loop-segment-test.true c.segment-item.is c.loop-segment.invariant)

pub returns : goal.returns
returns c =
    none_left (with_own c.args.main.now c.args.own.now.segments.now) c.args.own.now.segments.now c.loop-segment.segment-index c.loop-segment.shapes.items
    c.loop-segment-test.false c.loop-segment.invariant
