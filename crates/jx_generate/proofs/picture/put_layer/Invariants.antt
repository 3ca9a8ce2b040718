use Rattle.std.proofs.Common.{◌≡◌, ◌++◌, drop, map}
use Rattle.jx_generate.specs.Making.{pieces_bytes}
use Rattle.jx_generate.specs.Values.{drawn_piece}
use Rattle.jx_generate.proofs.picture.put_layer.Given as goal

abbrev pub invariant-loop-piece : goal.invariant-loop-piece
invariant-loop-piece l =
    l.out.items ++ pieces_bytes l.layer (map drawn_piece (drop l.piece-index l.piece-items)) ≡ l.initial.out.items ++ pieces_bytes l.layer (map drawn_piece l.piece-items)
