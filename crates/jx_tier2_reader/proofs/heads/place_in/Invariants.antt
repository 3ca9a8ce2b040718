use Rattle.std.proofs.Common.{◌≡◌, drop}
use Rattle.jx_tier2_reader.specs.Data.{place_in}
use Rattle.jx_tier2_reader.proofs.heads.place_in.Given as goal

abbrev pub invariant-loop-piece : goal.invariant-loop-piece
invariant-loop-piece l = place_in (drop l.piece-index l.pieces) l.left ≡ place_in l.pieces l.fn.number
