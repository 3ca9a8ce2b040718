use Rattle.std.proofs.Common.{arith}
use Rattle.jx_workers.proofs.PassLemmas.{free_next, past_next}
use Rattle.jx_workers.proofs.workers.work.Goals as goal

pub loop-preserved-in-Claim : goal.loop-preserved-in-Claim
loop-preserved-in-Claim g c =
    let e = c.in-Claim.ensures in (
      tt,
      tt,
      free_next g.N.Bounds.setup c.args.pass.now.table g.N.Bounds.workers c.loop.pass c.claim.new.pass c.commit.new.pass _ _ _ _ c.loop.invariant.2 e.0 e.2 c.commit.ensures,
      past_next c.claim.new.pass c.commit.new.pass _ _ _ _ _ c.commit.ensures (omega (arith, c.from-past.ensures, c.number.ensures)),
    )
