use Rattle.std.proofs.Common.{◌∙◌, ap, codes}
use Rattle.std.proofs.lemmas.Result.{IfOk-weaker}
use Rattle.jx_cli.specs.Command.{with_place}
use Rattle.jx_cli.specs.MakeWords.{make}
use Rattle.jx_cli.proofs.command.make.Goals as goal

pub returns : goal.returns
unfolding make
returns c =
    IfOk-weaker c.with_words.result _ _ (λ r is. is ∙ ap (λ app. with_place (codes "height") (with_place (codes "width") (with_place (codes "seed") app))) c.new-command.ensures.app) c.with_words.ensures
