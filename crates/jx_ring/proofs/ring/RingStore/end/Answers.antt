use Rattle.std.proofs.Common.{ℕ, ◌+◌, ◌*◌, ◌%◌, ◌∷◌, [], arith, ap, ◌∙◌}
use Rattle.jx_ring.specs.declared.view.Place.TheVariants.{Empty, Tape}
use Rattle.jx_ring.proofs.Draining.{ends_drain}
use Rattle.jx_ring.proofs.ring.RingStore.end.Goals as goal

pub store-requires : goal.store-requires
store-requires g c = let r = c.requires in let d = r.drains.1 in let live = r.drains.0 in let w = g.N.Bounds.setup.window in (
  r.table.0,
  (let n = c.args.self.now.counts in omega (arith, n)),
  ends_drain _ _ _ _ _ _ _ d.0 [] (ap (λ (z : ℕ). 2 * z + 2) r.table.1) live d.1 d.2 d.3 (d.4 ∙ ap (λ (z : ℕ). (w, Tape d.0) ∷ (z % w, Empty) ∷ []) r.table.1),
)
