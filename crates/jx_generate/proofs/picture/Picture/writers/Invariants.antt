use Rattle.std.proofs.Common.{◌≡◌, ℕ, map}
use Rattle.std.specs.List.{range_with_len}
use Rattle.jx_generate.specs.Making.{three_made}
use Rattle.jx_generate.proofs.picture.Picture.writers.Given as goal

abbrev pub invariant-loop-res : goal.invariant-loop-res
invariant-loop-res l = l.writers.items ≡ map (λ (r : ℕ). three_made l.self r 0) (range_with_len 0 l.res)
