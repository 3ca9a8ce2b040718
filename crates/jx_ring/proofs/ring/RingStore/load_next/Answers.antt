use Rattle.std.proofs.Common.{arith}
use Rattle.jx_ring.proofs.Looks.{looks_next}
use Rattle.jx_ring.proofs.ring.RingStore.load_next.Goals as goal

pub load-requires : goal.load-requires
load-requires g c = (c.requires, (let n = c.args.self.now.counts in omega (arith, n)), looks_next _ _ _ _ _ _)
