use Rattle.std.proofs.Common.{◌-◌, length}
use Rattle.jx_jp2.proofs.PositionLemmas.{IsPassed}
use Rattle.jx_jp2.proofs.positions.holds_positions.Given as goal

abbrev pub invariant-loop-at : goal.invariant-loop-at
invariant-loop-at l = IsPassed l.bytes l.at

abbrev pub decreases-loop-at : goal.decreases-loop-at
decreases-loop-at l = length l.bytes - l.at
