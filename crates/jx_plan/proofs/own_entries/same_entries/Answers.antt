use Rattle.std.proofs.Common.{sym}
use Rattle.jx_plan.proofs.CodingLemmas.{same_none}
use Rattle.jx_plan.proofs.own_entries.same_entries.Goals as goal

pub returns-then-a-b : goal.returns-then-a-b
returns-then-a-b c = sym (same_none c.args.a.now c.args.b.now c.if-a-b.true)
