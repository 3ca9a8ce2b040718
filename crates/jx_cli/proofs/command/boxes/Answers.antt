use Rattle.std.proofs.Common.{◌∙◌, ap, codes}
use Rattle.std.proofs.lemmas.Result.{IfOk-weaker}
use Rattle.clap.specs.Words.{app_of}
use Rattle.jx_cli.specs.BoxesWords.{boxes}
use Rattle.jx_cli.specs.Command.{with_options, with_place}
use Rattle.jx_options.specs.Names.{boxes_names}
use Rattle.jx_cli.proofs.command.boxes.Goals as goal

pub returns : goal.returns
unfolding boxes
returns c =
    let named = c.in_ok-command.ensures ∙ ap (with_place (codes "in")) c.new-command.ensures.app in
    IfOk-weaker c.with_options.result _ _ (λ r is. is ∙ ap (λ names. with_options names (app_of c.in_ok-command.command)) c.of_boxes.ensures ∙ ap (with_options boxes_names) named) c.with_options.ensures
