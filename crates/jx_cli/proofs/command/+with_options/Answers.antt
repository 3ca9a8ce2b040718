use Rattle.std.proofs.Common.{◌∙◌}
use Rattle.std.proofs.lemmas.Result.{IfOk-weaker}
use Rattle.clap.specs.Words.{app_of, rule_of}
use Rattle.jx_cli.proofs.CommandWordLemmas.{options_added}
use Rattle.jx_cli.proofs.command.+with_options.Goals as goal

pub returns : goal.returns
returns t c =
    let step = options_added c.args.options.now c.in-Some.rest.now c.in-Some.option.now c.is_flag.result c.name_of.result.now c.default_of.result.now (rule_of c.arg_of-arg.result) (app_of c.args.command) (app_of c.in_ok-command.command) c.in-Some.ensures.cases.0 c.is_flag.ensures c.name_of.ensures c.default_of.ensures (c.in_ok-command.ensures.shape c.arg_of-arg.ensures.local) c.arg_of-arg.ensures.rule in
    IfOk-weaker c.with_options.result _ _ (λ r is. is ∙ step) c.with_options.ensures
