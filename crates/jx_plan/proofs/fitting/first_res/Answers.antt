use Rattle.std.proofs.Common.{arith}
use Rattle.std.proofs.lemmas.Bool.Decides.{not_from_Decides}
use Rattle.jx_plan.proofs.fitting.first_res.Goals as goal

pub returns-then-not-keeps_at : goal.returns-then-not-keeps_at
returns-then-not-keeps_at c = record {
  level = omega (arith, c.loop-res-test.true);
  changed = not_from_Decides c.keeps_at.result c.keeps_at.ensures c.if-not-keeps_at.true;
  lowest = c.loop-res.invariant;
}
