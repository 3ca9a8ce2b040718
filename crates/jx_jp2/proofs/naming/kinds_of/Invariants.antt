use Rattle.std.proofs.Common.{◌-◌, length}
use Rattle.jx_jp2.proofs.NameLemmas.{AreBefore}
use Rattle.jx_jp2.proofs.naming.kinds_of.Given as goal

abbrev pub invariant-loop-at : goal.invariant-loop-at
invariant-loop-at l = AreBefore l.bytes l.at l.kinds.items

abbrev pub decreases-loop-at : goal.decreases-loop-at
decreases-loop-at l = length l.bytes - l.at
