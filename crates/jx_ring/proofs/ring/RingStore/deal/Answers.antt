use Rattle.std.proofs.Common.{arith}
use Rattle.jx_ring.proofs.Seats.{splits}
use Rattle.jx_ring.proofs.ring.RingStore.deal.Goals as goal

pub split_seat-requires : goal.split_seat-requires
split_seat-requires g c = let r = c.requires in let o = r.other in
    (r.table, (let n = c.args.self.now.counts in omega (arith, n)), splits _ _ _ _ o.0 _ o.1 o.2 o.3)
