use Rattle.std.proofs.Common.{length}
use Rattle.jx_plan.proofs.profile.+first_failed.Given as goal

abbrev pub decreases-first_failed : goal.decreases-first_failed
decreases-first_failed l = length l.met.now
