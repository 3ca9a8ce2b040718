use Rattle.std.proofs.Common.{arith}
use Rattle.jx_ring.proofs.Claiming.{tries}
use Rattle.jx_ring.proofs.ring.RingStore.try_claim.Goals as goal

pub compare_exchange-requires : goal.compare_exchange-requires
compare_exchange-requires g c = let r = c.requires in
    (r.table, (let n = c.args.self.now.counts in omega (arith, n)), tries _ _ _ _ _ _ _ r.free.0 r.free.1 r.room.0 r.room.1 r.room.2)
