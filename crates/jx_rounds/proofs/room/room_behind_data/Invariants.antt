use Rattle.std.proofs.Common.{◌≡◌, ◌+◌, drop}
use Rattle.jx_rounds.specs.Tiles.{bytes_of_pieces}
use Rattle.jx_rounds.proofs.room.room_behind_data.Given as goal

abbrev pub invariant-loop-piece : goal.invariant-loop-piece
invariant-loop-piece l = l.rest + bytes_of_pieces l.pieces ≡ l.room + bytes_of_pieces (drop l.piece-index l.pieces)
