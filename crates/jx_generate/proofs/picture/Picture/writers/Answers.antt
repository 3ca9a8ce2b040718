use Rattle.jx_generate.proofs.WriterLemmas.{one_more}
use Rattle.jx_generate.proofs.picture.Picture.writers.Goals as goal

pub loop-res-preserved : goal.loop-res-preserved
loop-res-preserved c =
    one_more c.args.self.now c.loop-res.res c.loop-res.writers.items c.push.new.self.items c.in_ok-three.three c.loop-res.invariant c.in_ok-three.ensures c.in_ok-push.ensures.items
