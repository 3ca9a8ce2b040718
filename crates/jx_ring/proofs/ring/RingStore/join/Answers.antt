use Rattle.std.proofs.Common.{arith}
use Rattle.jx_ring.proofs.Seats.{joins}
use Rattle.jx_ring.proofs.ring.RingStore.join.Goals as goal

pub join_seat-requires : goal.join_seat-requires
join_seat-requires g c = let r = c.requires in let f = r.free in
    (r.table.0, r.table.1, f.5, (let n = c.args.self.now.counts in omega (arith, n)), joins _ _ _ _ _ _ _ f.0 f.1 f.2 f.3 f.4)
