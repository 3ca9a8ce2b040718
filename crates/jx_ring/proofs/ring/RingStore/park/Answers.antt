use Rattle.std.proofs.Common.{ℕ, ◌+◌, arith, refl, ap}
use Rattle.jx_ring.proofs.Committing.{commits}
use Rattle.jx_ring.proofs.ring.RingStore.park.Goals as goal

pub store-requires : goal.store-requires
store-requires g c = let r = c.requires in let h = r.held.1 in let live = r.held.0 in let n = c.place-word.ensures.counts in let i = c.place-word.ensures.is in
    (r.table, omega (arith, n, i), commits _ _ _ _ _ _ _ c.args.number _ h.0 h.1 _ (ap (λ (z : ℕ). z + 2) i.0) refl h.3 live h.2 h.4 h.5 h.6)
