use Rattle.std.proofs.Common.{◌∙◌, ap}
use Rattle.std.proofs.lemmas.Result.{IfOk-weaker}
use Rattle.clap.specs.Words.{app_of}
use Rattle.jx_cli.specs.Command.{transcode, with_options, with_places}
use Rattle.jx_options.specs.Names.{transcode_names}
use Rattle.jx_cli.proofs.command.transcode.Goals as goal

pub returns : goal.returns
unfolding transcode
returns c =
    let places = c.in_ok-command.ensures ∙ ap with_places c.new-command.ensures.app in
    IfOk-weaker c.with_options.result _ _ (λ r is. is ∙ ap (λ names. with_options names (app_of c.in_ok-command.command)) c.of_transcode.ensures ∙ ap (with_options transcode_names) places) c.with_options.ensures
