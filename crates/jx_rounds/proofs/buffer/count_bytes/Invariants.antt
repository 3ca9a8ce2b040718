use Rattle.std.proofs.Common.{◌≡◌, ◌+◌, drop, length}
use Rattle.std.specs.List.{concat}
use Rattle.jx_rounds.specs.MadeRounds.{parts_of}
use Rattle.jx_rounds.proofs.buffer.count_bytes.Given as goal

abbrev pub invariant-loop-tile : goal.invariant-loop-tile
invariant-loop-tile l = l.count + length (concat (parts_of (drop l.tile-index l.tiles))) ≡ l.before + length (concat (parts_of l.tiles))
