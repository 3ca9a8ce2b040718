use Rattle.std.proofs.Common.{◌≡◌}
use Rattle.jx_base.specs.Joined.{joined}
use Rattle.jx_generate.specs.Made.{layer_made}
use Rattle.jx_generate.specs.Making.{writers_made}
use Rattle.jx_generate.proofs.picture.Picture.body.Given as goal

abbrev pub invariant-loop-layer : goal.invariant-loop-layer
invariant-loop-layer l = (l.bytes.items ≡ joined (layer_made l.self.seed l.self.width l.self.height) 0 l.layer) × (l.writers.items ≡ writers_made l.self l.layer 0)
