use Rattle.std.proofs.Common.{◌≡◌, ◌++◌}
use Rattle.jx_base.specs.Joined.{joined}
use Rattle.jx_generate.specs.Made.{resolution_made}
use Rattle.jx_generate.specs.Making.{writers_made}
use Rattle.jx_generate.proofs.picture.Picture.put_layer.Given as goal

abbrev pub invariant-loop-res : goal.invariant-loop-res
invariant-loop-res l =
    (l.out.items ≡ l.initial.out.items ++ joined (resolution_made l.self.seed l.self.width l.self.height l.layer) 0 l.res) × (l.writers.items ≡ writers_made l.self l.layer l.res)
