use Rattle.std.proofs.Common.{◌≡◌, ◌+◌, drop, length, map}
use Rattle.std.specs.List.{concat}
use Rattle.jx_rounds.proofs.buffer.count_tile.Given as goal

abbrev pub invariant-loop-part : goal.invariant-loop-part
invariant-loop-part l = l.count + length (concat (map concat (drop l.part l.tile))) ≡ l.before + length (concat (map concat l.tile))
