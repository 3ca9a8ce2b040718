use Rattle.std.proofs.Common.{◌∙◌, ◌≡◌, ℕ, List, map, ap, sym, arith}
use Rattle.jx_base.proofs.Joined.{joined_none, makes_next}
use Rattle.jx_generate.specs.Drawn.{first_pass, layer_pieces, past_passes}
use Rattle.jx_generate.specs.Values.{drawn_piece}
use Rattle.jx_generate.specs.declared.drawing.DrawnPiece.{DrawnPiece}
use Rattle.jx_generate.proofs.DrawnLemmas.{first_all, first_none, past_layer}
use Rattle.jx_generate.proofs.drawing.draw_pieces.Goals as goal

pub loop-layer-init : goal.loop-layer-init
loop-layer-init c = (
  ap (λ (xs : List DrawnPiece). map drawn_piece xs) c.new-pieces.ensures.items ∙ sym (joined_none (layer_pieces c.args.state.now c.args.passes) 0 0 (omega arith)),
  ap (past_passes c.args.state.now) (sym (first_none c.args.passes)),
)

pub loop-layer-preserved : goal.loop-layer-preserved
loop-layer-preserved c = (
  makes_next (map drawn_piece c.loop-layer.pieces.items) (map drawn_piece c.draw_layer.new.pieces.items) (layer_pieces c.args.state.now c.args.passes) 0 c.loop-layer.layer (omega arith)
      c.loop-layer.invariant.0 (c.in_ok-draw_layer.ensures.pieces c.args.state.now c.loop-layer.invariant.1),
  past_layer c.args.state.now c.loop-layer.state c.draw_layer.new.state c.args.passes c.loop-layer.layer c.loop-layer.invariant.1 c.in_ok-draw_layer.ensures.state,
)

pub returns-clause-state : goal.returns-clause-state
returns-clause-state c =
    let all : c.loop-layer.layer ≡ 12 = omega (arith, c.loop-layer-test.false, c.loop-layer.auto.layer-end) in
    c.loop-layer.invariant.1 ∙ ap (λ (l : ℕ). past_passes c.args.state.now (first_pass c.args.passes l)) all ∙ ap (past_passes c.args.state.now) (first_all c.args.passes)
