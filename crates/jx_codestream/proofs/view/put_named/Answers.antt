use Rattle.std.proofs.Common.{◌≡◌, ◌∙◌, ◌<◌, arith, length, sym}
use Rattle.jx_codestream.specs.Shapes.{comp_shape}
use Rattle.jx_codestream.specs.TileHeaders.{TileHeaders, with_own}
use Rattle.jx_codestream.proofs.PutLemmas.{put_left}
use Rattle.jx_codestream.proofs.view.put_named.Goals as goal

pub returns : goal.returns
returns c =
    let h : TileHeaders = with_own c.args.main.now c.args.own.now.segments.now in
    let within : c.in-Some.comp < length c.args.shapes.now.items = omega (arith, c.if-from-len.false, c.from.ensures, c.len.ensures) in
    let right : c.comp_shape.result ≡ comp_shape h c.in-Some.comp = rw (← c.siz.ensures, ← c.index.ensures) c.comp_shape.ensures in
    λ left has. rw c.from-2.ensures (put_left h c.args.segment.now left c.args.shapes.now.items has c.in-Some.comp c.comp_shape.result (sym c.comp_named.ensures ∙ c.in-Some.is) within right)
