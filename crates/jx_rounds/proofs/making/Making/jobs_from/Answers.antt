use Rattle.std.proofs.Common.{arith}
use Rattle.std.proofs.lemmas.Grind.{common_steps}
use Rattle.jx_rounds.proofs.TapedLemmas.{jobs_asked}
use Rattle.jx_rounds.proofs.making.Making.jobs_from.Goals as goal

pub returns-clause-asked : goal.returns-clause-asked
returns-clause-asked c = jobs_asked c.args.self.now c.args.first c.args.count _ c.jobs.ensures.plan (grind (arith, common_steps)) c.requires
