use Rattle.std.proofs.Common.{◌∙◌, ap, codes}
use Rattle.std.proofs.lemmas.Result.{IfOk-weaker}
use Rattle.clap.specs.Words.{app_of}
use Rattle.jx_cli.specs.Command.{with_options, with_place}
use Rattle.jx_cli.specs.SameWords.{same}
use Rattle.jx_options.specs.Names.{same_names}
use Rattle.jx_cli.proofs.command.same.Goals as goal

pub returns : goal.returns
unfolding same
returns c =
    let places = c.in_ok-command.ensures ∙ ap (λ app. with_place (codes "b") (with_place (codes "a") app)) c.new-command.ensures.app in
    IfOk-weaker c.with_options.result _ _ (λ r is. is ∙ ap (λ names. with_options names (app_of c.in_ok-command.command)) c.of_same.ensures ∙ ap (with_options same_names) places) c.with_options.ensures
