use Rattle.jx_progression.specs.Repeats.{AreRepeats}
use Rattle.jx_progression.proofs.repeats.mark_repeats.Given as goal

abbrev pub invariant-loop-next : goal.invariant-loop-next
invariant-loop-next l = AreRepeats l.entries l.repeats
