use Rattle.std.proofs.Common.{subst, sym}
use Rattle.std.proofs.lemmas.Result.{IfOk-weaker}
use Rattle.jx_cli.specs.BoxesWords.{Boxes}
use Rattle.jx_options.specs.Work.{MayBeLimit}
use Rattle.jx_cli.proofs.BoxesLemmas.{listed_may_be}
use Rattle.jx_cli.proofs.boxes.read_boxes.Goals as goal

pub returns-clause-may : goal.returns-clause-may
returns-clause-may c = IfOk-weaker c.asked_in.result _ _ (λ made is. subst (λ (asked : Boxes). MayBeLimit asked.limit) (sym is) (listed_may_be _)) c.asked_in.ensures.value
