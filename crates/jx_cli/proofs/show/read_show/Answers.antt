use Rattle.std.proofs.Common.{subst, sym}
use Rattle.std.proofs.lemmas.Result.{IfOk-weaker}
use Rattle.jx_cli.specs.ShowWords.{Show}
use Rattle.jx_options.specs.Work.{MayBeLimit}
use Rattle.jx_cli.proofs.ShowLemmas.{shown_may_be}
use Rattle.jx_cli.proofs.show.read_show.Goals as goal

pub returns-clause-may : goal.returns-clause-may
returns-clause-may c = IfOk-weaker c.asked_in.result _ _ (λ made is. subst (λ (asked : Show). MayBeLimit asked.limit) (sym is) (shown_may_be _)) c.asked_in.ensures.value
