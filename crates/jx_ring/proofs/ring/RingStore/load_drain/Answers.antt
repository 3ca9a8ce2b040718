use Rattle.std.proofs.Common.{arith}
use Rattle.jx_ring.proofs.Looks.{looks_drained}
use Rattle.jx_ring.proofs.ring.RingStore.load_drain.Goals as goal

pub load-requires : goal.load-requires
load-requires g c = (c.requires, (let n = c.args.self.now.counts in omega (arith, n)), looks_drained _ _ _ _ _ _)
