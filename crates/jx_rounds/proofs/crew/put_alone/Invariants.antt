use Rattle.jx_rounds.proofs.TapedLemmas.{AreAloneSoFar}
use Rattle.jx_rounds.proofs.crew.put_alone.Given as goal

abbrev pub invariant-loop-job : goal.invariant-loop-job
invariant-loop-job g l = AreAloneSoFar l.jobs l.job-index l.entries.items
