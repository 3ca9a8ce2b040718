use Rattle.std.proofs.Common.{ℕ, List, Option, subst}
use Rattle.jx_codestream.specs.Shapes.{shapes_of}
use Rattle.jx_plan.specs.Fits.{KeepsBlocks}
use Rattle.jx_plan.proofs.FitLemmas.{own_keeps}
use Rattle.jx_plan.proofs.fitting.first_misfit.Goals as goal

pub returns-in-None : goal.returns-in-None
returns-in-None c =
    subst (λ (o : Option (List ℕ)). KeepsBlocks o c.args.stream.now c.args.tile) c.in-None.ensures (own_keeps (shapes_of c.args.stream.now c.args.tile))
