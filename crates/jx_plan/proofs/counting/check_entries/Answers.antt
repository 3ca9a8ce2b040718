use Rattle.std.proofs.Common.{refl}
use Rattle.jx_plan.proofs.PartedLemmas.{many_counted}
use Rattle.jx_plan.proofs.counting.check_entries.Goals as goal

pub returns-then-all-gt2795776-clause-cause : goal.returns-then-all-gt2795776-clause-cause
returns-then-all-gt2795776-clause-cause c =
    (refl, many_counted c.args.marks c.args.written.now c.args.all c.requires.range c.requires.totals c.requires.all c.if-marks.true c.if-all-gt2795776.true)
