use Rattle.std.proofs.Common.{◌∙◌, ◌++◌, ℕ, List, ap, map}
use Rattle.jx_generate.specs.Making.{pieces_bytes}
use Rattle.jx_generate.specs.Values.{drawn_piece}
use Rattle.jx_generate.specs.declared.drawing.DrawnPiece.{DrawnPiece}
use Rattle.jx_generate.proofs.PictureLemmas.{layer_is, pieces_all, pieces_next}
use Rattle.jx_generate.proofs.picture.put_layer.Goals as goal

pub loop-piece-preserved : goal.loop-piece-preserved
loop-piece-preserved c =
    pieces_next c.args.layer c.loop-piece.piece-index c.deref-piece-items.result.now c.loop-piece.out.items c.put_piece.new.out.items
    (c.args.out.now.items ++ pieces_bytes c.args.layer (map drawn_piece c.deref-piece-items.result.now)) c.piece-item.result c.loop-piece-test.true c.piece-item.is c.in_ok-put_piece.ensures c.loop-piece.invariant

pub returns : goal.returns
returns c =
    pieces_all c.args.layer c.loop-piece.piece-index c.deref-piece-items.result.now c.loop-piece.out.items (c.args.out.now.items ++ pieces_bytes c.args.layer (map drawn_piece c.deref-piece-items.result.now))
    c.loop-piece-test.false c.loop-piece.invariant
    ∙ ap (λ (ps : List DrawnPiece). c.args.out.now.items ++ pieces_bytes c.args.layer (map drawn_piece ps)) c.deref-piece-items.ensures.value
    ∙ ap (λ (xs : List ℕ). c.args.out.now.items ++ xs) (layer_is c.args.layer c.args.block.now)
