use Rattle.std.proofs.Common.{◌∙◌}
use Rattle.std.proofs.lemmas.Result.{IfOk-weaker}
use Rattle.clap.specs.Words.{app_of, rule_of}
use Rattle.jx_cli.proofs.CommandWordLemmas.{words_added}
use Rattle.jx_cli.proofs.command.+with_words.Goals as goal

pub returns : goal.returns
returns t c =
    let step = words_added c.args.names.now c.in-Some.rest.now c.in-Some.name.now (rule_of c.place_of.result) (app_of c.args.command) (app_of c.in_ok-command.command) c.in-Some.ensures.cases.0 (c.in_ok-command.ensures.shape c.place_of.ensures.local) c.place_of.ensures.rule in
    IfOk-weaker c.with_words.result _ _ (λ r is. is ∙ step) c.with_words.ensures
