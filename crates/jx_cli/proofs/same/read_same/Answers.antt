use Rattle.std.proofs.Common.{subst, sym}
use Rattle.std.proofs.lemmas.Result.{IfOk-weaker}
use Rattle.jx_cli.specs.SameWords.{MayBeCompared, Pair}
use Rattle.jx_cli.proofs.SameLemmas.{pair_may_be}
use Rattle.jx_cli.proofs.same.read_same.Goals as goal

pub returns-clause-may : goal.returns-clause-may
returns-clause-may c = IfOk-weaker c.names_in.result _ _ (λ pair is. subst (λ (p : Pair). MayBeCompared p) (sym is) (pair_may_be _)) c.names_in.ensures.value
