use Rattle.std.proofs.Common.{arith}
use Rattle.jx_ring.proofs.Draining.{tries_drain}
use Rattle.jx_ring.proofs.ring.RingStore.begin.Goals as goal

pub compare_exchange-requires : goal.compare_exchange-requires
compare_exchange-requires g c = let r = c.requires in let s = r.sure in
    (r.table.0, (let n = c.args.self.now.counts in omega (arith, n)), rw (r.table.1) (tries_drain _ _ _ _ _ _ s.0 s.1 s.2))
