use Rattle.std.proofs.Common.{◌-◌, length}
use Rattle.jx_jp2.proofs.FindLemmas.{IsReached}
use Rattle.jx_jp2.proofs.finding.next_codestream.Given as goal

abbrev pub invariant-loop-at : goal.invariant-loop-at
invariant-loop-at l = IsReached l.bytes l.at

abbrev pub decreases-loop-at : goal.decreases-loop-at
decreases-loop-at l = length l.bytes - l.at
