use Rattle.std.proofs.Common.{◌∙◌}
use Rattle.std.proofs.lemmas.Result.{IfOk-weaker}
use Rattle.jx_codestream.proofs.tiles.finish_drafts.Goals as goal

pub returns-clause-each : goal.returns-clause-each
returns-clause-each c =
    IfOk-weaker c.finish_all.result _ _ (λ tiles each. each c.args.main.now c.in_ok-entries.ensures (c.in_ok-default.ensures ∙ c.cod_entry.ensures)) c.finish_all.ensures.each
