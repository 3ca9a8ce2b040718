use Rattle.std.proofs.Common.{ℕ, ◌<◌, List, subst}
use Rattle.jx_ring.specs.Passes.{Blank, Row}
use Rattle.jx_ring.proofs.Seats.{opens}
use Rattle.jx_ring.proofs.ring.RingStore.table_of.Goals as goal

pub new-requires : goal.new-requires
new-requires g c =
    let r = c.requires in let b = r.bounds in let ws : List ℕ = c.args.words.now in let xs = c.in_ok-slots.slots.items in
    opens g.N.Bounds.setup g.N.Bounds.workers _ ws xs
    (subst (λ (n : ℕ). Blank g.N.Bounds.setup.first n ws) b.0 r.words)
    (subst (λ (n : ℕ). Row g.N.Bounds.setup.window n xs) b.1 (subst (λ (n : ℕ). Row n c.args.count xs) b.0 c.in_ok-slots.ensures))
    (subst (λ (n : ℕ). 0 < n) b.0 r.sizes.1) (subst (λ (n : ℕ). 0 < n) b.2 r.sizes.2)
