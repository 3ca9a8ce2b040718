use Rattle.jx_rounds.proofs.PackedLemmas.{ones_joined}
use Rattle.jx_rounds.proofs.packed.Packed.whole.Goals as goal

pub returns : goal.returns
returns c = ones_joined (λ v. v.items) c.args.parts.items
