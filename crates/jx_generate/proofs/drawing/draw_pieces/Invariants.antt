use Rattle.std.proofs.Common.{◌≡◌, map}
use Rattle.jx_base.specs.Joined.{joined}
use Rattle.jx_generate.specs.Drawn.{first_pass, layer_pieces, past_passes}
use Rattle.jx_generate.specs.Values.{drawn_piece}
use Rattle.jx_generate.proofs.drawing.draw_pieces.Given as goal

abbrev pub invariant-loop-layer : goal.invariant-loop-layer
invariant-loop-layer l =
    (map drawn_piece l.pieces.items ≡ joined (layer_pieces l.initial.state l.passes) 0 l.layer) × (l.state ≡ past_passes l.initial.state (first_pass l.passes l.layer))
