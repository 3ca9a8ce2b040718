use Rattle.std.proofs.Common.{ℕ, ◌+◌, ◌%◌, arith, ap, ◌∙◌}
use Rattle.jx_ring.proofs.Looks.{looks_word}
use Rattle.jx_ring.proofs.ring.RingStore.load_word.Goals as goal

pub load-requires : goal.load-requires
load-requires g c = let n = c.place-word.ensures.counts in let i = c.place-word.ensures.is in
    (c.requires.0, omega (arith, n, i), looks_word _ _ _ _ _ _ _ (ap (λ (z : ℕ). z + 2) i.0 ∙ ap (λ (z : ℕ). z % g.N.Bounds.setup.window + 2) c.requires.1))
