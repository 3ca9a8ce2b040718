use Rattle.std.proofs.Common.{subst, sym}
use Rattle.std.proofs.lemmas.Result.{IfOk-weaker}
use Rattle.jx_cli.specs.MakeWords.{Make, MayBeMade}
use Rattle.jx_cli.proofs.MakeLemmas.{make_may_be}
use Rattle.jx_cli.proofs.make.read_make.Goals as goal

pub returns-clause-may : goal.returns-clause-may
returns-clause-may c = IfOk-weaker c.make_in.result _ _ (λ m is. subst (λ (asked : Make). MayBeMade asked) (sym is) (make_may_be _)) c.make_in.ensures.value
