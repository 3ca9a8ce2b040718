-- Inner: drawn blocks as plain records.
use Rattle.std.specs.Prelude.{map}
use Rattle.jx_base.specs.Pieces.{PieceValue}
use Rattle.jx_generate.specs.declared.drawing.DrawnPiece.{DrawnPiece}
use Rattle.jx_generate.specs.declared.drawing.DrawnBlock.{DrawnBlock}
use Rattle.jx_generate.specs.Drawn.{Drawn}

abbrev pub drawn_piece : DrawnPiece → PieceValue
drawn_piece p = record { layer = p.layer; first = p.first; passes = p.passes; bytes = p.bytes.items }

abbrev pub drawn_of : DrawnBlock → Drawn
drawn_of b = record { zero = b.zero; pieces = map drawn_piece b.pieces.items }
